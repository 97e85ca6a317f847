-- States are equal exactly where they say the same.
use Rattle.std.proofs.Common.{◌≡◌, Bool, true, false, ◌&&◌, List, [], ◌∷◌, map, refl, ap, ◌∙◌}
use Rattle.std.specs.Cmp.Lexicographic.{pointwise, pointwise_decides}
use Rattle.np_frac.specs.Fractions.{Fraction}
use Rattle.np_state.specs.Bits.{bits_eq, beq_Decides}
use Rattle.np_state.specs.StateValues.{StateValue}
use Rattle.np_state.specs.States.{value_of}
use Rattle.np_state.specs.declared.state.State.{State}

-- both truths hold
both_of : (a b : Bool) → (a && b) ≡ true → (a ≡ true) × (b ≡ true)
both_of true b e = (refl, e)
both_of false b e = absurd (cc)

-- what `==` answers at states
abbrev pub state_eq : {C : Type 0} → (C → C → Bool) → State C → State C → Bool
state_eq eq a b = bits_eq a.facts b.facts && pointwise eq a.cells.items b.cells.items

module _ {C : Type 0} (eq : C → C → Bool) (value : C → Fraction) where
  module _ (same : (a b : C) → eq a b ≡ true → value a ≡ value b) where
    same_cells : (xs ys : List C) → pointwise eq xs ys ≡ true → map value xs ≡ map value ys
    same_cells [] [] e = refl
    same_cells [] (y ∷ ys) e = absurd (cc)
    same_cells (x ∷ xs) [] e = absurd (cc)
    same_cells (x ∷ xs) (y ∷ ys) e =
        let parts = both_of (eq x y) (pointwise eq xs ys) e in
        let head = same x y parts.0 in
        let rest = same_cells xs ys parts.1 in
        cc

    -- equal states say the same
    pub same_state : (a b : State C) → state_eq eq a b ≡ true → value_of value a ≡ value_of value b
    same_state a b e =
        let parts = both_of (bits_eq a.facts b.facts) (pointwise eq a.cells.items b.cells.items) e in
        let facts = (pointwise_decides beq_Decides a.facts b.facts).0 parts.0 in
        let cells = same_cells a.cells.items b.cells.items parts.1 in
        λ i. record { facts = facts i; cells = cells i }

  module _ (alike : (a b : C) → value a ≡ value b → eq a b ≡ true) where
    alike_cells : (xs ys : List C) → map value xs ≡ map value ys → pointwise eq xs ys ≡ true
    alike_cells [] [] e = refl
    alike_cells [] (y ∷ ys) e = absurd (cc)
    alike_cells (x ∷ xs) [] e = absurd (cc)
    alike_cells (x ∷ xs) (y ∷ ys) e =
        let head : value x ≡ value y = cc in
        let rest : map value xs ≡ map value ys = cc in
        ap (λ b. b && pointwise eq xs ys) (alike x y head) ∙ alike_cells xs ys rest

    -- states that say the same are equal
    pub alike_state : (a b : State C) → value_of value a ≡ value_of value b → state_eq eq a b ≡ true
    alike_state a b e =
        let facts = (pointwise_decides beq_Decides a.facts b.facts).1 (ap (λ (s : StateValue). s.facts) e) in
        let cells = alike_cells a.cells.items b.cells.items (ap (λ (s : StateValue). s.cells) e) in
        ap (λ c. c && pointwise eq a.cells.items b.cells.items) facts ∙ cells
