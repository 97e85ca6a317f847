use Rattle.std.proofs.Common.{◌≡◌, take}
use Rattle.np_scale.proofs.subgoal.Subgoals.copy.Given as goal

abbrev pub invariant-loop-subgoal : goal.invariant-loop-subgoal
invariant-loop-subgoal l = l.subgoals ≡ take l.subgoal-index l.subgoal-items
