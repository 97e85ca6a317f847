use Rattle.std.proofs.Common.{◌≡◌, not}
use Rattle.std.specs.Prelude.{filter}
use Rattle.std.specs.List.{range_with_len}
use Rattle.np_relax.specs.Closed.{on}
use Rattle.np_cuts.proofs.sharpen.outside.Given as goal

abbrev pub invariant-loop-subgoal : goal.invariant-loop-subgoal
invariant-loop-subgoal l = l.members.items ≡ filter (λ q. not (on l.can q)) (range_with_len 0 l.subgoal)
