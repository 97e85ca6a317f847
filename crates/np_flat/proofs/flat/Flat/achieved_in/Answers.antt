use Rattle.std.proofs.Common.{rules, ◌≡◌, ◌<◌, ◌^◌, ℕ, ℤ, false, eqb, length, get_or, All, Some, slice_get, filter, refl, sym, ap, ◌∙◌, subst}
use Rattle.std.specs.Option.{option_map_or}
use Rattle.std.proofs.lemmas.Fn.{filter_same}
use Rattle.std.proofs.lemmas.List.Filters.{dedup_is}
use Rattle.std.proofs.lemmas.Option.{slice_get_read}
use Rattle.std.specs.List.Sorted.{IsPermutation}
use Rattle.np_flat.specs.declared.parts.Parts.{Parts}
use Rattle.np_flat.specs.declared.parts.FlatStep.{FlatStep}
use Rattle.np_flat.specs.Flats.{IsAscending, IsFlat, IsStep}
use Rattle.np_flat.specs.States.{has}
use Rattle.np_flat.specs.Achieving.{achieved_by, achieves_at}
use Rattle.np_flat.specs.Readers.{touched, IsIndex}
use Rattle.np_flat.proofs.Forms.{amounts_within}
use Rattle.np_flat.proofs.Steps.{step_is}
use Rattle.np_flat.proofs.Index.{achieved_are, ascending_sorted}
use Rattle.np_flat.proofs.flat.Flat.achieved_in.Goals as goal

pub put_touched-requires-clause-changes : goal.put_touched-requires-clause-changes
put_touched-requires-clause-changes c =
    let task = c.self.inside.parts in
    let step = c.index-as_slice-step.result in
    let number : c.args.step < length task.steps = subst (λ (p : Parts). c.args.step < length p.steps) (sym c.self.view_is) c.requires in
    let of : IsStep (length task.facts) (length task.values) (length task.subgoals) step = step_is task c.as_slice.result.now c.args.step step c.self.invariant.0 c.as_slice.ensures number c.index-as_slice-step.is in
    subst (λ n. All (λ (x : ℕ × ℤ). x.0 < n) step.changes) (sym c.self.invariant.1.values.many) (amounts_within (length task.values) (2 ^ 62) step.changes of.changes)

pub returns-clause-ascending : goal.returns-clause-ascending
returns-clause-ascending c =
    let test = achieved_by c.args.self.now c.args.step in
    let unlike = dedup_is eqb c.sort_unstable.new.self.items c.dedup.new.self.items c.dedup.ensures.filtered in
    let kept = filter_same _ test _ (λ x b f' k. search rules) c.dedup.new.self.items c.retain.new.self.items c.retain.ensures.filtered in
    subst IsAscending (sym (kept ∙ ap (filter test) unlike)) (ascending_sorted test c.sort_unstable.new.self.items c.sort_unstable.ensures.sorted)

pub returns-clause-exact : goal.returns-clause-exact
returns-clause-exact c q =
    let task = c.args.self.now in
    let readers = c.self.inside.readers in
    let step = c.index-as_slice-step.result in
    let steps = c.as_slice.ensures ∙ ap (λ (p : Parts). p.steps) c.self.view_is in
    let flat : IsFlat task = subst IsFlat c.self.view_is c.self.invariant.0 in
    let index : IsIndex task readers = subst (λ (p : Parts). IsIndex p readers) c.self.view_is c.self.invariant.1 in
    let of : IsStep (length task.facts) (length task.values) (length task.subgoals) step = step_is task c.as_slice.result.now c.args.step step flat steps c.requires c.index-as_slice-step.is in
    let there : slice_get task.steps c.args.step ≡ Some step =
    slice_get_read task.steps (length task.steps) c.args.step step refl c.requires (subst (λ xs. step ≡ get_or xs c.args.step step) steps c.index-as_slice-step.is)
    in
    let test = achieved_by task c.args.step in
    let put : c.put_touched.new.numbers.items ≡ touched readers step = c.in_ok-put_touched.ensures in
    let moved : IsPermutation (touched readers step) c.sort_unstable.new.self.items = subst (λ xs. IsPermutation xs c.sort_unstable.new.self.items) put c.sort_unstable.ensures.permutation in
    let unlike = dedup_is eqb c.sort_unstable.new.self.items c.dedup.new.self.items c.dedup.ensures.filtered in
    let kept = filter_same _ test _ (λ x b f' k. search rules) c.dedup.new.self.items c.retain.new.self.items c.retain.ensures.filtered in
    ap (λ xs. has xs q) (kept ∙ ap (filter test) unlike)
    ∙ achieved_are task readers step flat index of test (λ p. ap (λ o. option_map_or (λ (x : FlatStep). achieves_at task x p) o false) there) c.sort_unstable.new.self.items q moved
