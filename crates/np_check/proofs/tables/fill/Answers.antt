use Rattle.std.proofs.Common.{sym, subst}
use Rattle.np_check.specs.Listed.{IsFilled}
use Rattle.np_check.proofs.Listed.{filled}
use Rattle.np_check.proofs.tables.fill.Goals as goal

pub returns : goal.returns
returns c =
    subst (IsFilled c.args.subgoals c.args.listed.now) (sym c.put_all.ensures)
    (filled c.args.subgoals c.args.listed.now c.clear.new.numbers.items c.requires c.in_ok-clear.ensures.count c.in_ok-clear.ensures.zeros)
