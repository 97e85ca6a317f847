use Rattle.std.proofs.Common.{◌≡◌, ◌<◌, ℕ, length}
use Rattle.np_flat.specs.States.{holds}
use Rattle.np_relax.specs.Closed.{on}
use Rattle.np_relax.proofs.reached.held.Given as goal

abbrev pub invariant-loop-subgoal : goal.invariant-loop-subgoal
invariant-loop-subgoal l = record {
  count : length l.can.items ≡ l.subgoal;
  held : (q : ℕ) → q < l.subgoal → on l.can.items q ≡ holds l.flat l.state q;
}
