use Rattle.std.proofs.Common.{take}
use Rattle.np_cuts.specs.Cuts.{AreSharpened, false_ones}
use Rattle.np_cuts.proofs.sharpen.sharpened_cuts.Given as goal

abbrev pub invariant-loop-subgoal : goal.invariant-loop-subgoal
invariant-loop-subgoal l = AreSharpened l.flat l.state (false_ones l.flat l.state (take l.subgoal-index l.goal)) l.rows.items
