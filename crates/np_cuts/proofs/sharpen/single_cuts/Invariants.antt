use Rattle.std.proofs.Common.{◌≡◌, take}
use Rattle.np_cuts.specs.Cuts.{single_cuts, false_ones}
use Rattle.np_cuts.proofs.sharpen.single_cuts.Given as goal

abbrev pub invariant-loop-subgoal : goal.invariant-loop-subgoal
invariant-loop-subgoal l = l.rows.items ≡ single_cuts (false_ones l.flat l.state (take l.subgoal-index l.goal))
