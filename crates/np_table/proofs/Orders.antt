-- Entries are ordered, with none above all numbers.
use Rattle.std.proofs.Common.{◌≡◌, ℕ, ◌+◌, ◌<◌, ◌≤◌, max, true, false, List, [], ◌∷◌, refl, sym, ap, ◌∙◌, inl, inr, arith, Some, None}
use Rattle.std.proofs.lemmas.Bool.{ltb-true, ltb-false, eqb-true, or_cases, or_left, or_right, eq-eqb, false≢true}
use Rattle.std.specs.Prelude.{eqb}
use Rattle.np_flat.specs.States.{has}
use Rattle.np_table.specs.Tables.{Entry, IsAtMost, larger, reach}
use Rattle.np_table.specs.Lowering.{is_below, height_of}

pub at_most_refl : (e : Entry) → IsAtMost e e
at_most_refl None = tt
at_most_refl (Some n) = omega arith

pub at_most_trans : (a b c : Entry) → IsAtMost a b → IsAtMost b c → IsAtMost a c
at_most_trans a b None h k = tt
at_most_trans a None (Some n) h k = absurd k
at_most_trans None (Some m) (Some n) h k = absurd h
at_most_trans (Some l) (Some m) (Some n) h k = omega arith

pub at_most_zero : (e : Entry) → IsAtMost e (Some 0) → e ≡ Some 0
at_most_zero None h = absurd h
at_most_zero (Some n) h = ap (λ k. Some k) (omega arith)

pub at_most_number : (e : Entry) (m : ℕ) → IsAtMost e (Some m) → (n : ℕ) × (e ≡ Some n) × (n ≤ m)
at_most_number None m h = absurd h
at_most_number (Some n) m h = (n, refl, h)

pub below_at_most : (m : ℕ) (e : Entry) → is_below m e ≡ true → IsAtMost (Some m) e
below_at_most m None h = tt
below_at_most m (Some n) h = omega (arith, ltb-true m n h)

pub not_below_at_most : (m : ℕ) (e : Entry) → is_below m e ≡ false → IsAtMost e (Some m)
not_below_at_most m None h = absurd (false≢true (sym h))
not_below_at_most m (Some n) h = ltb-false m n h

pub below_height : (m : ℕ) (e : Entry) → is_below m e ≡ true → m < 4611686018427387904 → m + 1 ≤ height_of e
below_height m None h k = omega arith
below_height m (Some n) h k = omega (arith, ltb-true m n h)

-- the larger of three
pub larger_assoc : (a b c : Entry) → larger (larger a b) c ≡ larger a (larger b c)
larger_assoc None b c = refl
larger_assoc (Some l) None c = refl
larger_assoc (Some l) (Some m) None = refl
larger_assoc (Some l) (Some m) (Some n) = ap (λ k. Some k) (omega arith)

pub larger_zero : (e : Entry) → larger (Some 0) e ≡ e
larger_zero None = refl
larger_zero (Some n) = ap (λ k. Some k) (omega arith)

pub zero_larger : (e : Entry) → larger e (Some 0) ≡ e
zero_larger None = refl
zero_larger (Some n) = ap (λ k. Some k) (omega arith)

larger_mono : (a b c d : Entry) → IsAtMost a c → IsAtMost b d → IsAtMost (larger a b) (larger c d)
larger_mono a b None d h k = tt
larger_mono a b (Some m) None h k = tt
larger_mono None b (Some m) (Some n) h k = absurd h
larger_mono (Some l) None (Some m) (Some n) h k = absurd k
larger_mono (Some l) (Some p) (Some m) (Some n) h k = omega arith

-- larger entries reach further
pub reach_mono : (f g : ℕ → Entry) → ((q : ℕ) → IsAtMost (f q) (g q)) → (xs : List ℕ) → IsAtMost (reach f xs) (reach g xs)
reach_mono f g h [] = omega arith
reach_mono f g h (x ∷ xs) = larger_mono (f x) (reach f xs) (g x) (reach g xs) (h x) (reach_mono f g h xs)

-- the same entries reach as far
pub reach_same : (f g : ℕ → Entry) (xs : List ℕ) → ((q : ℕ) → has xs q ≡ true → f q ≡ g q) → reach f xs ≡ reach g xs
reach_same f g [] h = refl
reach_same f g (x ∷ xs) h =
    ap (λ e. larger e (reach f xs)) (h x (or_left (eqb x x) (has xs x) (eq-eqb x x refl)))
    ∙ ap (larger (g x)) (reach_same f g xs (λ q i. h q (or_right (eqb x q) (has xs q) i)))

larger_some : (a b : Entry) (r : ℕ) → larger a b ≡ Some r → ((m : ℕ) × (a ≡ Some m)) × ((n : ℕ) × (b ≡ Some n))
larger_some None b r h = absurd (cc)
larger_some (Some m) None r h = absurd (cc)
larger_some (Some m) (Some n) r h = ((m, refl), (n, refl))

-- where the reach is a number, so are all
pub reach_numbers : (f : ℕ → Entry) (xs : List ℕ) (r : ℕ) → reach f xs ≡ Some r → (q : ℕ) → has xs q ≡ true → (n : ℕ) × (f q ≡ Some n)
reach_numbers f [] r h q i = absurd (false≢true i)
reach_numbers f (x ∷ xs) r h q i =
    let both = larger_some (f x) (reach f xs) r h in
    elim (or_cases (eqb x q) (has xs q) i) [
      | inl same ↦ (both.0.0, ap f (sym (eqb-true x q same)) ∙ both.0.1)
      | inr later ↦ reach_numbers f xs both.1.0 both.1.1 q later
    ]

numbers_larger : (a b : Entry) → (m : ℕ) × (a ≡ Some m) → (n : ℕ) × (b ≡ Some n) → (r : ℕ) × (larger a b ≡ Some r)
numbers_larger a b h k = (max h.0 k.0, rw (h.1, k.1) refl)

-- and the other way round
pub numbers_reach : (f : ℕ → Entry) (xs : List ℕ) → ((q : ℕ) → has xs q ≡ true → (n : ℕ) × (f q ≡ Some n)) → (r : ℕ) × (reach f xs ≡ Some r)
numbers_reach f [] h = (0, refl)
numbers_reach f (x ∷ xs) h =
    numbers_larger (f x) (reach f xs) (h x (or_left (eqb x x) (has xs x) (eq-eqb x x refl)))
    (numbers_reach f xs (λ q i. h q (or_right (eqb x q) (has xs q) i)))
