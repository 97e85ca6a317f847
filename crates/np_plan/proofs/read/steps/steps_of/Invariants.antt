use Rattle.std.proofs.Common.{drop}
use Rattle.np_plan.proofs.Rising.{Passed}
use Rattle.np_plan.proofs.read.steps.steps_of.Given as goal

abbrev pub invariant-loop-line : goal.invariant-loop-line
invariant-loop-line l = Passed l.task l.lines l.before l.steps.items (drop l.line-index l.lines)
