use Rattle.std.proofs.Common.{◌≡◌, ◌<◌, All, [], Some, refl, sym, ◌∙◌, ap, subst, length, get_or}
use Rattle.std.specs.Prelude.{slice_get}
use Rattle.std.specs.Option.{option_map_or}
use Rattle.std.proofs.lemmas.Bool.{cond-true}
use Rattle.std.proofs.lemmas.Option.{slice_get_read, same_Some}
use Rattle.np_flat.specs.declared.parts.Parts.{Parts}
use Rattle.np_flat.specs.declared.parts.FlatStep.{FlatStep}
use Rattle.np_flat.specs.Plans.{cost_of}
use Rattle.np_relax.specs.Needing.{needs_of}
use Rattle.np_relax.specs.Work.{achieved}
use Rattle.np_relax.proofs.Achieved.{achieved_one, achieved_within}
use Rattle.np_table.specs.Tables.{reach, at}
use Rattle.np_table.specs.Units.{paid}
use Rattle.np_table.specs.Given.{noted, noted_by, is_number}
use Rattle.np_table.proofs.given.note_step.Goals as goal

pub note-requires-clause-subgoals : goal.note-requires-clause-subgoals
note-requires-clause-subgoals c =
    let task = c.args.flat.now in
    let is : c.as_slice-in-Some.result.now ≡ achieved task c.args.step = c.as_slice-in-Some.ensures.value ∙ achieved_one task c.args.step c.achieved_in.new.achieved.items c.in_ok-achieved_in.ensures.ascending c.in_ok-achieved_in.ensures.exact in
    subst (All (λ q. q < length task.subgoals)) (sym is) (achieved_within task c.args.step)

pub pay-requires-clause-step : goal.pay-requires-clause-step
pay-requires-clause-step c =
    let task = c.args.flat.now in
    let step = c.index-as_slice-step.result in
    slice_get_read task.steps (length task.steps) c.args.step step refl c.requires.step (subst (λ xs. step ≡ get_or xs c.args.step step) (c.as_slice.ensures ∙ ap (λ (p : Parts). p.steps) c.parts.ensures.parts) c.index-as_slice-step.is)

pub pay-requires-clause-subgoals : goal.pay-requires-clause-subgoals
pay-requires-clause-subgoals c =
    let task = c.args.flat.now in
    let is : c.as_slice-in-Some-2.result.now ≡ achieved task c.args.step = c.as_slice-in-Some-2.ensures.value ∙ achieved_one task c.args.step c.achieved_in.new.achieved.items c.in_ok-achieved_in.ensures.ascending c.in_ok-achieved_in.ensures.exact in
    subst (All (λ q. q < length task.subgoals)) (sym is) (achieved_within task c.args.step)

pub returns-in_ok-achieved_in-clause-reaches : goal.returns-in_ok-achieved_in-clause-reaches
returns-in_ok-achieved_in-clause-reaches c =
    let task = c.args.flat.now in
    let n = c.args.step in
    let step = c.index-as_slice-step.result in
    let before = c.args.reaches.now.items in
    let found : slice_get task.steps n ≡ Some step =
    slice_get_read task.steps (length task.steps) n step refl c.requires.step (subst (λ xs. step ≡ get_or xs n step) (c.as_slice.ensures ∙ ap (λ (p : Parts). p.steps) c.parts.ensures.parts) c.index-as_slice-step.is)
    in
    let is : c.as_slice-in-Some.result.now ≡ achieved task n = c.as_slice-in-Some.ensures.value ∙ achieved_one task n c.achieved_in.new.achieved.items c.in_ok-achieved_in.ensures.ascending c.in_ok-achieved_in.ensures.exact in
    let far : reach (at c.args.entries.now) (needs_of task n) ≡ Some c.in-Some.reach = sym (c.reached.ensures ∙ ap (reach (at c.args.entries.now)) c.needs.ensures.needs) ∙ c.in-Some.is in
    let costs : step.cost ≡ cost_of task n = sym (ap (λ o. option_map_or (λ (x : FlatStep). x.cost) o 0) found) in
    c.note.ensures
    ∙ ap (λ xs. noted task step.cost c.in-Some.reach xs before) is
    ∙ ap (λ k. noted task k c.in-Some.reach (achieved task n) before) costs
    ∙ sym (ap (λ o. noted_by task n o before) far)

pub returns-in_ok-achieved_in-clause-units : goal.returns-in_ok-achieved_in-clause-units
returns-in_ok-achieved_in-clause-units c = λ u have.
    let task = c.args.flat.now in
    let n = c.args.step in
    let step = c.index-as_slice-step.result in
    let before = c.args.units.now.items in
    let found : slice_get task.steps n ≡ Some step =
    slice_get_read task.steps (length task.steps) n step refl c.requires.step (subst (λ xs. step ≡ get_or xs n step) (c.as_slice.ensures ∙ ap (λ (p : Parts). p.steps) c.parts.ensures.parts) c.index-as_slice-step.is)
    in
    let is : c.as_slice-in-Some-2.result.now ≡ achieved task n = c.as_slice-in-Some-2.ensures.value ∙ achieved_one task n c.achieved_in.new.achieved.items c.in_ok-achieved_in.ensures.ascending c.in_ok-achieved_in.ensures.exact in
    let needed : needs_of task n ≡ u.needs = ap (λ o. option_map_or (λ (x : FlatStep). x.needs) o []) have in
    let far : reach (at c.args.entries.now) u.needs ≡ Some c.in-Some.reach = sym (c.reached.ensures ∙ ap (reach (at c.args.entries.now)) (c.needs.ensures.needs ∙ needed)) ∙ c.in-Some.is in
    c.pay.ensures
    ∙ ap (λ xs. paid task c.args.state.now step xs before) is
    ∙ ap (λ v. paid task c.args.state.now v (achieved task n) before) (same_Some step u (sym found ∙ have))
    ∙ sym (cond-true (is_number (reach (at c.args.entries.now) u.needs)) (paid task c.args.state.now u (achieved task n) before) before (ap is_number far))
