use Rattle.std.proofs.Common.{◌≡◌, ◌<◌, All, Some, refl, sym, ◌∙◌, ap, subst, length, get_or, slice_get}
use Rattle.std.proofs.lemmas.Option.{slice_get_read}
use Rattle.np_flat.specs.declared.parts.Parts.{Parts}
use Rattle.np_relax.specs.Closed.{on}
use Rattle.np_relax.specs.Work.{achieved}
use Rattle.np_relax.proofs.Achieved.{achieved_one, achieved_within}
use Rattle.np_table.proofs.Pays.{paid_is}
use Rattle.np_table.proofs.units.pay_step.Goals as goal

pub pay-requires-clause-subgoals : goal.pay-requires-clause-subgoals
pay-requires-clause-subgoals c =
    let task = c.args.flat.now in
    let is : c.as_slice-then-are_on.result.now ≡ achieved task c.args.step = c.as_slice-then-are_on.ensures.value ∙ achieved_one task c.args.step c.achieved_in.new.achieved.items c.in_ok-achieved_in.ensures.ascending c.in_ok-achieved_in.ensures.exact in
    subst (All (λ q. q < length task.subgoals)) (sym is) (achieved_within task c.args.step)

pub returns-in_ok-achieved_in : goal.returns-in_ok-achieved_in
returns-in_ok-achieved_in c = λ u at.
    let task = c.args.flat.now in
    let step = c.index-as_slice-step.result in
    let found : slice_get task.steps c.args.step ≡ Some step =
    slice_get_read task.steps (length task.steps) c.args.step step refl c.requires.step (subst (λ xs. step ≡ get_or xs c.args.step step) (c.as_slice.ensures ∙ ap (λ (p : Parts). p.steps) c.parts.ensures.parts) c.index-as_slice-step.is)
    in
    let is : c.as_slice-then-are_on.result.now ≡ achieved task c.args.step = c.as_slice-then-are_on.ensures.value ∙ achieved_one task c.args.step c.achieved_in.new.achieved.items c.in_ok-achieved_in.ensures.ascending c.in_ok-achieved_in.ensures.exact in
    paid_is task c.args.state.now (on c.args.can.now) c.args.step u step c.needs.result.now c.as_slice-then-are_on.result.now c.args.units.now.items c.pay.new.units.items c.are_on.result at found c.pay.ensures is c.needs.ensures.needs c.are_on.ensures c.if-are_on.true
