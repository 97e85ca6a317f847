use Rattle.std.proofs.Common.{take}
use Rattle.np_check.specs.Walks.{HasRun}
use Rattle.np_check.proofs.plan.check_plan.Given as goal

abbrev pub invariant-loop-number : goal.invariant-loop-number
invariant-loop-number l = HasRun l.flat (take l.number l.steps) l.walk
