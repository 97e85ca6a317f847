-- Weighted sums as the code adds them up.
use Rattle.std.proofs.Common.{◌≡◌, ℕ, ◌+◌, ◌<◌, ◌^◌, ℤ, pos, negsuc, ◌+ℤ◌, ◌*ℤ◌, true, List, [], ◌∷◌, length, drop, get_or, refl, sym, ap, ◌∙◌, subst, inl, inr, arith, cond, Option, Some, None}
use Rattle.std.specs.Option.{option_and_then}
use Rattle.std.proofs.lemmas.Int.{ints, to_z-of_z}
use Rattle.std.proofs.lemmas.Bool.{cases_Bool, ltb-true, lt-ltb}
use Rattle.std.proofs.lemmas.Option.{same_Some, option_and_then_some, cond_some}
use Rattle.std.proofs.lemmas.List.{at_drop_more}
use mir.Syntax.{w128}
use mir.Val.{to_z, of_z, SFits}
use Rattle.np_flat.specs.declared.state.FlatState.{FlatState}
use Rattle.np_flat.specs.declared.parts.Parts.{Parts}
use Rattle.np_count.specs.declared.proof.Row.{Row}
use Rattle.np_count.specs.declared.proof.Proof.{Proof}
use Rattle.np_count.specs.Rows.{right}
use Rattle.np_count.specs.Bounds.{fits, with_item, added_up, bound_of, proof_bound}

fits_signed : (z : ℤ) → fits z ≡ true → SFits w128 z
fits_signed (pos n) e = record { sfits = ltb-true n (2 ^ 127) e }
fits_signed (negsuc n) e = record { sfits = ltb-true n (2 ^ 127) e }

-- a sum with one more item fits
item_fits : (sum : ℤ) (w : ℕ) (v z : ℤ) → with_item sum w v ≡ Some z → fits z ≡ true
item_fits sum w v z e =
    elim (cases_Bool (fits (pos w *ℤ v))) [
      | inl so ↦
          let parts = cond_some (fits (sum +ℤ (pos w *ℤ v))) (sum +ℤ (pos w *ℤ v)) z (rw so at e) in
          subst (λ x. fits x ≡ true) parts.1 parts.0
      | inr other ↦ absurd (none_some (rw other at e))
    ]
  where
    none_some : {y : ℤ} → None ≡ Some y → ⊥
    none_some h = cc

-- what is added up fits
sum_fits : (amount : Row → ℤ) (items : List (ℕ × Row)) (sum total : ℤ) → fits sum ≡ true → added_up amount sum items ≡ Some total → fits total ≡ true
sum_fits amount [] sum total f e = subst (λ z. fits z ≡ true) (same_Some sum total e) f
sum_fits amount (i ∷ is) sum total f e =
    option_and_then_some (λ next. added_up amount next is) (with_item sum i.0 (amount i.1)) total e
    (λ next first rest. sum_fits amount is next total (item_fits sum i.0 (amount i.1) next first) rest)

-- one item more, as the code reads the numbers
pub added_more : (amount : Row → ℤ) (items : List (ℕ × Row)) (i : ℕ) (x : ℕ × Row) (sum next v : ℤ) (total : Option ℤ) → i < length items → x ≡ get_or items i x → SFits w128 v → v ≡ amount x.1
    → Some next ≡ with_item sum x.0 (to_z w128 (of_z w128 v)) → total ≡ added_up amount sum (drop i items) → total ≡ added_up amount (to_z w128 (of_z w128 next)) (drop (i + 1) items)
added_more amount items i x sum next v total h at f is made so_far =
    let here : with_item sum x.0 (amount x.1) ≡ Some next = rw (← is) (subst (λ z. with_item sum x.0 z ≡ Some next) (to_z-of_z w128 v f) (sym made)) in
    let there : with_item sum (get_or items i x).0 (amount (get_or items i x).1) ≡ Some next = subst (λ y. with_item sum y.0 (amount y.1) ≡ Some next) at here in
    let read : to_z w128 (of_z w128 next) ≡ next = to_z-of_z w128 next (fits_signed next (item_fits sum x.0 (amount x.1) next here)) in
    rw read (so_far ∙ at_drop_more (added_up amount sum) items i x h ∙ ap (option_and_then (λ z. added_up amount z (drop (i + 1) items))) there)

-- the bound of a sum, as the code reads it
pub bound_read : (task given : Parts) (proof : Proof) (items : List (ℕ × Row)) (s : FlatState) (total : ℤ) → given ≡ task → items ≡ proof.items → Some total ≡ added_up (right given s) (pos 0) items
    → bound_of proof.divisor (to_z w128 (of_z w128 total)) ≡ proof_bound task proof s
bound_read task given proof items s total p q e =
    let same : added_up (right task s) (pos 0) proof.items ≡ Some total = subst (λ t. added_up (right t s) (pos 0) proof.items ≡ Some total) p (subst (λ is. added_up (right given s) (pos 0) is ≡ Some total) q (sym e)) in
    let read : to_z w128 (of_z w128 total) ≡ total = to_z-of_z w128 total (fits_signed total (sum_fits (right task s) proof.items (pos 0) total refl same)) in
    rw read (sym (ap (option_and_then (bound_of proof.divisor)) same))

fits_from : (z : ℤ) → SFits w128 z → fits z ≡ true
fits_from (pos n) f = lt-ltb n (2 ^ 127) f.sfits
fits_from (negsuc n) f = lt-ltb n (2 ^ 127) f.sfits

times_zero : (w : ℕ) → pos w *ℤ pos 0 ≡ pos 0
times_zero w = omega (arith, ints)

add_zero : (a : ℤ) → a +ℤ pos 0 ≡ a
add_zero a = omega (arith, ints)

with_zero : (sum p : ℤ) → p ≡ pos 0 → fits sum ≡ true → Some sum ≡ cond (fits p) (cond (fits (sum +ℤ p)) (Some (sum +ℤ p)) None) None
with_zero sum p e f =
    let one : Some sum ≡ cond (fits sum) (Some sum) None = rw f refl in
    let two : Some sum ≡ cond (fits (sum +ℤ pos 0)) (Some (sum +ℤ pos 0)) None = subst (λ z. Some sum ≡ cond (fits z) (Some z) None) (sym (add_zero sum)) one in
    subst (λ q. Some sum ≡ cond (fits q) (cond (fits (sum +ℤ q)) (Some (sum +ℤ q)) None) None) (sym e) two

-- an amount of 0 changes nothing
pub zero_item : (sum : ℤ) (w : ℕ) (v : ℤ) → SFits w128 sum → v ≡ pos 0 → Some (to_z w128 (of_z w128 sum)) ≡ with_item sum w v
zero_item sum w v f e = rw (to_z-of_z w128 sum f) (with_zero sum (pos w *ℤ v) (ap (λ z. pos w *ℤ z) e ∙ times_zero w) (fits_from sum f))

pub zero_read : (v : ℤ) → SFits w128 v → of_z w128 v ≡ 0 → v ≡ pos 0
zero_read v f e = sym (to_z-of_z w128 v f) ∙ ap (to_z w128) e
