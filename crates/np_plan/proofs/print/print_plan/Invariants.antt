use Rattle.std.proofs.Common.{◌≡◌, take}
use Rattle.np_plan.specs.Layout.{steps_text}
use Rattle.np_plan.proofs.print.print_plan.Given as goal

abbrev pub invariant-loop-step : goal.invariant-loop-step
invariant-loop-step l = l.text.items ≡ steps_text l.task (take l.step-index l.steps)
