use Rattle.std.proofs.Common.{◌≡◌, ◌++◌, take}
use Rattle.np_plan.specs.Layout.{objects_text}
use Rattle.np_plan.proofs.print.push_objects.Given as goal

abbrev pub invariant-loop-object : goal.invariant-loop-object
invariant-loop-object l = l.text.items ≡ l.initial.text.items ++ objects_text l.task (take l.object-index l.objects)
