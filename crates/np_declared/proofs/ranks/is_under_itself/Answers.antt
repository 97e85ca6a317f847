use Rattle.std.proofs.Common.{sym, ap, arith}
use Rattle.np_declared.specs.Ranks.{rank_of}
use Rattle.np_declared.proofs.Rising.{not_itself}
use Rattle.np_declared.proofs.ranks.is_under_itself.Goals as goal

pub returns-then-rank_of : goal.returns-then-rank_of
returns-then-rank_of c =
    let above = ap (rank_of c.args.ranks.now) c.parent_of-parent.ensures in
    sym (not_itself c.args.types.now c.args.ranks.now c.requires c.args.number (omega arith))
