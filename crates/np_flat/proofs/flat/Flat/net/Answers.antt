use Rattle.std.proofs.Common.{◌≡◌, ◌^◌, Some, length, get_or, refl, sym, ap, ◌∙◌, subst, slice_get, pos}
use Rattle.std.specs.Option.{option_map_or}
use Rattle.std.proofs.lemmas.Int.{to_z-of_z}
use Rattle.std.proofs.lemmas.Option.{slice_get_read}
use mir.Syntax.{w128}
use Rattle.np_flat.specs.declared.parts.Parts.{Parts}
use Rattle.np_flat.specs.declared.parts.FlatStep.{FlatStep}
use Rattle.np_flat.specs.Flats.{IsFlat, IsStep}
use Rattle.np_flat.specs.Achieving.{net, net_terms}
use Rattle.np_flat.proofs.Forms.{amounts_small}
use Rattle.np_flat.proofs.Steps.{step_is}
use Rattle.np_flat.proofs.flat.Flat.net.Goals as goal

pub net_terms-requires-clause-changes : goal.net_terms-requires-clause-changes
net_terms-requires-clause-changes c =
    let task = c.args.self.now in
    let step = c.index-as_slice-step.result in
    let of : IsStep (length task.facts) (length task.values) (length task.subgoals) step =
    step_is task c.as_slice.result.now c.args.step step (subst IsFlat c.self.view_is c.self.invariant.0) (c.as_slice.ensures ∙ ap (λ (p : Parts). p.steps) c.self.view_is) c.requires.number c.index-as_slice-step.is
    in
    rw (c.as_slice-2.ensures ∙ ap (λ (x : FlatStep). x.changes) (sym c.index-as_slice-step.is)) (amounts_small (length task.values) (2 ^ 62) step.changes of.changes)

pub net_terms-requires-clause-ascending : goal.net_terms-requires-clause-ascending
net_terms-requires-clause-ascending c =
    let task = c.args.self.now in
    let step = c.index-as_slice-step.result in
    let of : IsStep (length task.facts) (length task.values) (length task.subgoals) step =
    step_is task c.as_slice.result.now c.args.step step (subst IsFlat c.self.view_is c.self.invariant.0) (c.as_slice.ensures ∙ ap (λ (p : Parts). p.steps) c.self.view_is) c.requires.number c.index-as_slice-step.is
    in
    rw (c.as_slice-2.ensures ∙ ap (λ (x : FlatStep). x.changes) (sym c.index-as_slice-step.is)) of.changes.numbers.ascending

pub net_terms-requires-clause-terms : goal.net_terms-requires-clause-terms
net_terms-requires-clause-terms c = rw c.as_slice-3.ensures (amounts_small (length c.args.self.now.values) (2 ^ 31) c.args.form.now.terms c.requires.form.terms)

pub returns-clause-value : goal.returns-clause-value
returns-clause-value c =
    let task = c.args.self.now in
    let step = c.index-as_slice-step.result in
    let there : slice_get task.steps c.args.step ≡ Some step =
    slice_get_read task.steps (length task.steps) c.args.step step refl c.requires.number (subst (λ xs. step ≡ get_or xs c.args.step step) (c.as_slice.ensures ∙ ap (λ (p : Parts). p.steps) c.self.view_is) c.index-as_slice-step.is)
    in
    to_z-of_z w128 c.net_terms.result (record { sfits = c.net_terms.type_inv })
    ∙ c.net_terms.ensures.value
    ∙ ap (λ cs. net_terms cs c.as_slice-3.result.now) (c.as_slice-2.ensures ∙ ap (λ (x : FlatStep). x.changes) (sym c.index-as_slice-step.is))
    ∙ ap (net_terms step.changes) c.as_slice-3.ensures
    ∙ ap (λ o. option_map_or (λ (x : FlatStep). net x c.args.form.now) o (pos 0)) (sym there)
