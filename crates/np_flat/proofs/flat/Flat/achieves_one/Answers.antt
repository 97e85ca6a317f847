use Rattle.std.proofs.Common.{◌≡◌, ◌<◌, ◌^◌, ℕ, ℤ, Bool, ◌||◌, ◌&&◌, length, All, List, Vec, sym, ap, ◌∙◌, subst}
use Rattle.std.specs.List.{list_any}
use Rattle.std.proofs.lemmas.Bool.{or_left}
use Rattle.std.specs.declared.alloc.Global.{Global}
use Rattle.np_flat.specs.declared.parts.Parts.{Parts}
use Rattle.np_flat.specs.Flats.{IsFlat, IsStep}
use Rattle.np_flat.specs.States.{has}
use Rattle.np_flat.specs.Achieving.{achieves_at}
use Rattle.np_flat.specs.Readers.{rows, row, IsIndex}
use Rattle.np_flat.proofs.Forms.{amounts_within}
use Rattle.np_flat.proofs.Touches.{by_facts, by_changes, one_touched, by_first, by_last}
use Rattle.np_flat.proofs.flat.Flat.achieves_one.Goals as goal
use Rattle.np_flat.proofs.flat.Flat.achieves_one.Goals.{then-one_by_facts, else-one_by_facts}

pub one_by_changes-requires-clause-values : goal.one_by_changes-requires-clause-values
one_by_changes-requires-clause-values c =
    let step = c.args.step.now in
    let readers = c.self.inside.readers in
    let of : IsStep (length c.self.inside.parts.facts) (length c.self.inside.parts.values) (length c.self.inside.parts.subgoals) step =
    subst (λ (p : Parts). IsStep (length p.facts) (length p.values) (length p.subgoals) step) (sym c.self.view_is) c.requires.step
    in
    let within = subst (λ n. All (λ (x : ℕ × ℤ). x.0 < n) step.changes) (sym c.self.invariant.1.values.many) (amounts_within (length c.self.inside.parts.values) (2 ^ 62) step.changes of.changes) in
    subst (λ (vs : List (Vec ℕ Global)). All (λ (x : ℕ × ℤ). x.0 < length (rows vs)) step.changes) (sym c.as_slice-else-one_by_facts-2.ensures.value) within

pub returns-then-one_by_facts-2 : goal.returns-then-one_by_facts-2
returns-then-one_by_facts-2 c =
    let task = c.args.self.now in
    let readers = c.self.inside.readers in
    let step = c.args.step.now in
    let us = c.args.subgoals.now in
    let flat : IsFlat task = subst IsFlat c.self.view_is c.self.invariant.0 in
    let index : IsIndex task readers = subst (λ (p : Parts). IsIndex p readers) c.self.view_is c.self.invariant.1 in
    let facts : List ℕ → Bool = by_facts task readers step flat index c.requires.step us in
    let ones : List (Vec ℕ Global) → List ℕ → Bool = λ vs ps. list_any (λ p. list_any (λ q. has us q && achieves_at task step q) (row (rows vs) p)) ps in
    let added : c.one_by_facts.result ≡ facts step.adds =
    subst (λ vs. c.one_by_facts.result ≡ ones vs step.adds) c.as_slice-facts.ensures.value (subst (λ xs. c.one_by_facts.result ≡ ones c.as_slice-facts.result.now xs) c.as_slice.ensures c.one_by_facts.ensures)
    in
    let first : c.if-one_by_facts.value ≡ (facts step.adds || facts step.deletes) =
    elim c.if-one_by_facts.branch [
      | then-one_by_facts w ↦ w.value-is ∙ w.if-one_by_facts.true ∙ sym (or_left (facts step.adds) (facts step.deletes) (sym added ∙ w.if-one_by_facts.true))
      | else-one_by_facts w ↦
          w.value-is
          ∙ subst (λ vs. w.one_by_facts-else-one_by_facts.result ≡ ones vs step.deletes) c.as_slice-facts.ensures.value (subst (λ xs. w.one_by_facts-else-one_by_facts.result ≡ ones c.as_slice-facts.result.now xs) w.as_slice-else-one_by_facts.ensures w.one_by_facts-else-one_by_facts.ensures)
          ∙ sym (ap (λ b. b || facts step.deletes) (sym added ∙ w.if-one_by_facts.false))
    ]
    in
    let changed = by_changes task readers step flat index c.requires.step us step.changes in
    let whole = one_touched task readers step flat index c.requires.step us in
    by_first c.if-one_by_facts.value (facts step.adds || facts step.deletes) changed (list_any (achieves_at task step) us) whole first c.if-one_by_facts-2.true

pub returns-else-one_by_facts-2 : goal.returns-else-one_by_facts-2
returns-else-one_by_facts-2 c =
    let task = c.args.self.now in
    let readers = c.self.inside.readers in
    let step = c.args.step.now in
    let us = c.args.subgoals.now in
    let flat : IsFlat task = subst IsFlat c.self.view_is c.self.invariant.0 in
    let index : IsIndex task readers = subst (λ (p : Parts). IsIndex p readers) c.self.view_is c.self.invariant.1 in
    let facts : List ℕ → Bool = by_facts task readers step flat index c.requires.step us in
    let ones : List (Vec ℕ Global) → List ℕ → Bool = λ vs ps. list_any (λ p. list_any (λ q. has us q && achieves_at task step q) (row (rows vs) p)) ps in
    let added : c.one_by_facts.result ≡ facts step.adds =
    subst (λ vs. c.one_by_facts.result ≡ ones vs step.adds) c.as_slice-facts.ensures.value (subst (λ xs. c.one_by_facts.result ≡ ones c.as_slice-facts.result.now xs) c.as_slice.ensures c.one_by_facts.ensures)
    in
    let first : c.if-one_by_facts.value ≡ (facts step.adds || facts step.deletes) =
    elim c.if-one_by_facts.branch [
      | then-one_by_facts w ↦ w.value-is ∙ w.if-one_by_facts.true ∙ sym (or_left (facts step.adds) (facts step.deletes) (sym added ∙ w.if-one_by_facts.true))
      | else-one_by_facts w ↦
          w.value-is
          ∙ subst (λ vs. w.one_by_facts-else-one_by_facts.result ≡ ones vs step.deletes) c.as_slice-facts.ensures.value (subst (λ xs. w.one_by_facts-else-one_by_facts.result ≡ ones c.as_slice-facts.result.now xs) w.as_slice-else-one_by_facts.ensures w.one_by_facts-else-one_by_facts.ensures)
          ∙ sym (ap (λ b. b || facts step.deletes) (sym added ∙ w.if-one_by_facts.false))
    ]
    in
    let changed = by_changes task readers step flat index c.requires.step us step.changes in
    let whole = one_touched task readers step flat index c.requires.step us in
    let last : c.one_by_changes.result ≡ changed =
    subst (λ (vs : List (Vec ℕ Global)). c.one_by_changes.result ≡ list_any (λ (x : ℕ × ℤ). list_any (λ q. has us q && achieves_at task step q) (row (rows vs) x.0)) step.changes) c.as_slice-else-one_by_facts-2.ensures.value c.one_by_changes.ensures
    in
    last ∙ by_last c.if-one_by_facts.value (facts step.adds || facts step.deletes) changed (list_any (achieves_at task step) us) whole first c.if-one_by_facts-2.false
