use Rattle.std.proofs.Common.{All, take}
use Rattle.np_check.specs.Steps.{IsBounded}
use Rattle.np_check.proofs.check.are_bounded.Given as goal

abbrev pub invariant-loop-step : goal.invariant-loop-step
invariant-loop-step l = All (IsBounded l.flat l.first l.entry) (take l.step-index l.steps)
