use Rattle.std.proofs.Common.{◌∙◌, ap, ◌++◌}
use Rattle.np_cuts.proofs.Lists.{are_cuts}
use Rattle.np_cuts.proofs.sharpen.cuts.Goals as goal

pub returns : goal.returns
returns c =
    are_cuts c.args.flat.now c.args.state.now c.append.new.self.items c.in_ok-more.more.items c.single_cuts.ensures.kept
    (c.in_ok-append.ensures.items ∙ ap (λ xs. xs ++ c.in_ok-more.more.items) c.in_ok-rows.ensures.rows) c.in_ok-more.ensures
