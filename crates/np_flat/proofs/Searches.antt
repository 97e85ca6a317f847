-- What a binary search among changes finds.
use Rattle.std.proofs.Common.{◌≡◌, ◌≢◌, ℕ, zero, suc, ◌<◌, ◌≤◌, ℤ, pos, List, [], ◌∷◌, length, map, get_or, All, refl, sym, ap, ◌∙◌, subst, inl, inr, arith, nat_cmp, Result, Ok, Err}
use Rattle.std.specs.List.{HoldsAt}
use Rattle.std.specs.List.Sorted.{IsBinarySearchResult, IsSearchInRange, IsNonDecreasingBy, IsPartitionPoint}
use Rattle.std.specs.declared.cmp.Ordering.TheVariants.{Less, Equal, Greater}
use Rattle.std.specs.Ordering.{ordering_index}
use Rattle.std.proofs.lemmas.Bool.{cases_lt, eq-eqb, ne_eqb}
use Rattle.std.proofs.lemmas.Bool.Decides.{nat_tests}
use Rattle.std.proofs.lemmas.List.{length-map, get_or-map}
use Rattle.std.proofs.lemmas.List.Elements.{All-head, All-tail}
use Rattle.np_flat.specs.Flats.{IsAscending}
use Rattle.np_flat.proofs.Ascending.{above_first, ascending_rest}
use Rattle.np_flat.specs.Achieving.{change_on}

keys : List (ℕ × ℤ) → List ℕ
keys cs = map (λ c. c.0) cs

key_equal : (a b : ℕ) → nat_cmp a b ≡ Equal → a ≡ b
key_equal a b e = grind (arith, nat_tests)

key_less : (a b : ℕ) → nat_cmp a b ≡ Less → a < b
key_less a b e = grind (arith, nat_tests)

key_greater : (a b : ℕ) → nat_cmp a b ≡ Greater → b < a
key_greater a b e = grind (arith, nat_tests)

index_rises : (a b n : ℕ) → a ≤ b → ordering_index (nat_cmp a n) ≤ ordering_index (nat_cmp b n)
index_rises a b n le = grind (arith, nat_tests)

-- the change at a place
at_place : (cs : List (ℕ × ℤ)) (i : ℕ) (d : ℕ × ℤ) → IsAscending (map (λ c. c.0) cs) → i < length cs → change_on cs (get_or cs i d).0 ≡ (get_or cs i d).1
at_place [] i d up h = absurd (omega arith)
at_place (c ∷ cs) zero d up h = rw (eq-eqb c.0 c.0 refl) refl
at_place (c ∷ cs) (suc i) d up h =
    let within : i < length cs = omega arith in
    let above : c.0 < (get_or cs i d).0 =
    subst (λ k. c.0 < k) (get_or-map (λ (a : ℕ × ℤ). a.0) cs i d d.0 within)
    (above_first c.0 (map (λ (a : ℕ × ℤ). a.0) cs) up i d.0 (subst (λ n. i < n) (sym (length-map cs (λ (a : ℕ × ℤ). a.0))) within)) in
    let ne : c.0 ≢ (get_or cs i d).0 = omega arith in
    rw (ne_eqb c.0 (get_or cs i d).0 ne) (at_place cs i d (ascending_rest c.0 (map (λ (a : ℕ × ℤ). a.0) cs) up) within)

pub found : (cs : List (ℕ × ℤ)) (n i : ℕ) (d : ℕ × ℤ) → IsAscending (map (λ c. c.0) cs) → i < length cs → HoldsAt (λ c. nat_cmp c.0 n ≡ Equal) cs i → (get_or cs i d).1 ≡ change_on cs n
found cs n i d up h at = sym (at_place cs i d up h) ∙ ap (change_on cs) (key_equal (get_or cs i d).0 n (at d))

none_there : (cs : List (ℕ × ℤ)) (n : ℕ) → All (λ c. c.0 ≢ n) cs → change_on cs n ≡ pos 0
none_there [] n apart = refl
none_there (c ∷ cs) n apart = rw (ne_eqb c.0 n (All-head (λ (a : ℕ × ℤ). a.0 ≢ n) c cs apart)) (none_there cs n (All-tail (λ (a : ℕ × ℤ). a.0 ≢ n) c cs apart))

keys_rise : (cs : List (ℕ × ℤ)) (i j : ℕ) (d : ℕ × ℤ) → IsAscending (map (λ c. c.0) cs) → i ≤ j → j < length cs → (get_or cs i d).0 ≤ (get_or cs j d).0
keys_rise cs i j d up le h =
    elim (cases_lt i j) [
      | inl lt ↦
          let low : i < length cs = omega arith in
          let below : get_or (map (λ (a : ℕ × ℤ). a.0) cs) i d.0 < get_or (map (λ (a : ℕ × ℤ). a.0) cs) j d.0 =
          up i j d.0 lt (subst (λ n. j < n) (sym (length-map cs (λ (a : ℕ × ℤ). a.0))) h) in
          let one = get_or-map (λ (a : ℕ × ℤ). a.0) cs i d d.0 low in
          let two = get_or-map (λ (a : ℕ × ℤ). a.0) cs j d d.0 h in
          omega arith
      | inr ge ↦ let e : i ≡ j = omega arith in subst (λ k. (get_or cs i d).0 ≤ (get_or cs k d).0) e (omega arith)
    ]

pub absent : (cs : List (ℕ × ℤ)) (n i : ℕ) → IsAscending (map (λ c. c.0) cs)
    → (IsNonDecreasingBy (λ c. ordering_index (nat_cmp c.0 n)) cs → IsPartitionPoint (λ c. nat_cmp c.0 n ≡ Less) (λ c. nat_cmp c.0 n ≡ Greater) cs i) → change_on cs n ≡ pos 0
absent cs n i up split =
    let parts = split (λ k j d le h. index_rises (get_or cs k d).0 (get_or cs j d).0 n (keys_rise cs k j d up le h)) in
    none_there cs n
    (λ k d h e.
    elim (cases_lt k i) [
      | inl lt ↦ omega (arith, key_less (get_or cs k d).0 n (parts.0 k d (omega arith) lt))
      | inr ge ↦ omega (arith, key_greater (get_or cs k d).0 n (parts.1 k d ge h))
    ])

pub place_within : (cs : List (ℕ × ℤ)) (r : Result ℕ ℕ) (i : ℕ) → IsSearchInRange r (length cs) → r ≡ Ok i → i < length cs
place_within cs r i bound e = subst (λ q. IsSearchInRange q (length cs)) e bound

pub read_found : (cs : List (ℕ × ℤ)) (n : ℕ) (r : Result ℕ ℕ) (i : ℕ) (d : ℕ × ℤ) → IsAscending (map (λ c. c.0) cs) → IsSearchInRange r (length cs) → IsBinarySearchResult (λ c. nat_cmp c.0 n) cs r → r ≡ Ok i → (get_or cs i d).1 ≡ change_on cs n
read_found cs n r i d up bound position e = found cs n i d up (place_within cs r i bound e) (subst (IsBinarySearchResult (λ c. nat_cmp c.0 n) cs) e position)

pub read_absent : (cs : List (ℕ × ℤ)) (n : ℕ) (r : Result ℕ ℕ) (i : ℕ) → IsAscending (map (λ c. c.0) cs) → IsBinarySearchResult (λ c. nat_cmp c.0 n) cs r → r ≡ Err i → pos 0 ≡ change_on cs n
read_absent cs n r i up position e = sym (absent cs n i up (subst (IsBinarySearchResult (λ c. nat_cmp c.0 n) cs) e position))
