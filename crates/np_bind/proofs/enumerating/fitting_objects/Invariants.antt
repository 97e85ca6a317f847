use Rattle.std.proofs.Common.{◌≡◌, ◌++◌, drop}
use Rattle.np_bind.specs.Bindings.{fitting_objects, objects_from}
use Rattle.np_bind.proofs.enumerating.fitting_objects.Given as goal

-- those so far, and those among the objects that are left
abbrev pub invariant-loop-number : goal.invariant-loop-number
invariant-loop-number l = fitting_objects l.task l.wanted ≡ l.all ++ objects_from l.task.types l.wanted l.number (drop l.number l.object-items)
