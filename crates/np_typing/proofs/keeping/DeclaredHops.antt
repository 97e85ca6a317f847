-- Parents lead to the first type where no type is under itself: of as many steps as there are types, two would come to the same type.
use Rattle.std.proofs.Common.{◌≡◌, ℕ, zero, suc, ◌+◌, ◌-◌, ◌<◌, ◌≤◌, true, false, refl, sym, ◌∙◌, ap, arith, List, length}
use Rattle.std.specs.Prelude.{◌⊎◌}
use mathlib.Core.Logic.{inl, inr}
use Rattle.std.proofs.lemmas.Bool.{both_ways, or_left, or_right, eq-eqb, cases_order, cases_Bool}
use Rattle.indexmap.proofs.IndexTableLemmas.Probe.{pigeonhole}
use Rattle.np_model.specs.declared.task.TypeName.{TypeName}
use Rattle.np_model.specs.Types.{parent_of, leads_within, is_under}

module _ (types : List TypeName) where
  -- the type that so many steps to parents lead to
  abbrev pub after_hops : ℕ → ℕ → ℕ
  after_hops zero of = of
  after_hops (suc i) of = after_hops i (parent_of types of)

  pub hops_on : (i d n of : ℕ) → n ≡ i + d → after_hops d (after_hops i of) ≡ after_hops n of
  hops_on zero d n of e = let same : d ≡ n = omega arith in ap (λ k. after_hops k of) same
  hops_on (suc i) d zero of e = absurd (omega arith)
  hops_on (suc i) d (suc n) of e = hops_on i d n (parent_of types of) (omega arith)

  pub leads_after : (n i of over : ℕ) → i ≤ n → after_hops i of ≡ over → leads_within types n of over ≡ true
  leads_after zero zero of over less e = eq-eqb of over e
  leads_after (suc n) zero of over less e = or_left _ _ (eq-eqb of over e)
  leads_after zero (suc i) of over less e = absurd (omega arith)
  leads_after (suc n) (suc i) of over less e = or_right _ _ (leads_after n i (parent_of types of) over (omega arith) e)

  module _ (within : (of : ℕ) → of < length types → parent_of types of < length types)
      (apart : (of : ℕ) → of < length types → (parent_of types of ≡ 0) ⊎ (is_under types (parent_of types of) of ≡ false)) where
    hops_within : (i of : ℕ) → of < length types → after_hops i of < length types
    hops_within zero of h = h
    hops_within (suc i) of h = hops_within i (parent_of types of) (within of h)

    -- a type that steps come to again leads to the first one
    again : (i d j of : ℕ) → of < length types → j ≡ suc (i + d) → j ≤ length types → after_hops i of ≡ after_hops j of → is_under types of 0 ≡ true
    again i d j of h is most e = by (apart (after_hops i of) (hops_within i of h))
      where
        next : after_hops 1 (after_hops i of) ≡ after_hops (i + 1) of
        next = hops_on i 1 (i + 1) of refl

        round : after_hops d (parent_of types (after_hops i of)) ≡ after_hops i of
        round = hops_on i (suc d) j of (omega arith) ∙ sym e

        by : ((parent_of types (after_hops i of) ≡ 0) ⊎ (is_under types (parent_of types (after_hops i of)) (after_hops i of) ≡ false)) → is_under types of 0 ≡ true
        by (inl z) = leads_after (length types) (i + 1) of 0 (omega arith) (sym next ∙ z)
        by (inr isnt) = absurd (both_ways _ isnt (leads_after (length types) d (parent_of types (after_hops i of)) (after_hops i of) (omega arith) round))

    pub all_lead : (of : ℕ) → of < length types → is_under types of 0 ≡ true
    all_lead of h = by (cases_Bool (is_under types of 0))
      where
        by : ((is_under types of 0 ≡ true) ⊎ (is_under types of 0 ≡ false)) → is_under types of 0 ≡ true
        by (inl is) = is
        by (inr isnt) = absurd (let past = pigeonhole (suc (length types)) (length types) (λ i. after_hops i of) (λ i _. hops_within i of h) one in omega arith)
          where
            earlier : (i j : ℕ) → i < j → j < suc (length types) → after_hops i of ≡ after_hops j of → ⊥
            earlier i j less most e = both_ways _ isnt (again i (j - suc i) j of h (omega arith) (omega arith) e)

            one : (i j : ℕ) → i < suc (length types) → j < suc (length types) → after_hops i of ≡ after_hops j of → i ≡ j
            one i j a b e = elim (cases_order i j) [
              | inl same ↦ same
              | inr other ↦ elim other [
                | inl less ↦ absurd (earlier i j less b e)
                | inr more ↦ absurd (earlier j i more a (sym e))
              ]
            ]
