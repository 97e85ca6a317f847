use Rattle.std.proofs.Common.{◌≡◌, ◌<◌, ℕ, length}
use Rattle.np_relax.specs.Closed.{on}
use Rattle.np_cuts.specs.Cuts.{counts}
use Rattle.np_cuts.proofs.sharpen.counted.Given as goal

abbrev pub invariant-loop-step : goal.invariant-loop-step
invariant-loop-step l = record {
  count : length l.removed ≡ length l.flat.steps;
  counted : (n : ℕ) → n < l.step → on l.removed n ≡ counts l.flat l.subgoal n;
}
