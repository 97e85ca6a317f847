use Rattle.std.proofs.Common.{◌∙◌, ap}
use Rattle.np_count.specs.declared.proof.Row.TheVariants as row
use Rattle.np_relax.specs.Closed.{on}
use Rattle.np_cuts.specs.Cuts.{outside}
use Rattle.np_cuts.proofs.Lists.{is_sharpened}
use Rattle.np_cuts.proofs.sharpen.sharpened.Goals as goal

pub returns : goal.returns
returns c =
    is_sharpened c.args.flat.now c.args.state.now c.args.subgoal c.in_ok-removed.removed c.in_ok-reached.reached.can.items (row.Cut c.from_vec.result) c.in_ok-members.members.items c.in_ok-removed.ensures.counted
    c.in_ok-reached.ensures.least (c.in_ok-members.ensures ∙ ap (λ bs. outside c.args.flat.now (on bs)) c.as_slice.ensures.value) (ap (λ us. row.Cut us) c.from_vec.ensures)
