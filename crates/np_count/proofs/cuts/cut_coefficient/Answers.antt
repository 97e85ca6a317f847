use Rattle.std.proofs.Common.{length}
use Rattle.np_count.proofs.Members.{cut_ascends}
use Rattle.np_count.proofs.cuts.cut_coefficient.Goals as goal

pub achieves_one-achieved-requires-clause-ascending : goal.achieves_one-achieved-requires-clause-ascending
achieves_one-achieved-requires-clause-ascending c = cut_ascends (length c.args.flat.now.subgoals) c.args.subgoals.now c.requires.subgoals

pub is_among-requires : goal.is_among-requires
is_among-requires c = cut_ascends (length c.args.flat.now.subgoals) c.args.subgoals.now c.requires.subgoals
