-- Ascending numbers as bits, and back.
use Rattle.std.proofs.Common.{◌≡◌, ℕ, zero, suc, ◌+◌, ◌<◌, ◌≤◌, Bool, false, ◌||◌, eqb, List, [], ◌∷◌, get_or, All, refl, sym, ap, ◌∙◌, arith, inl, inr}
use Rattle.std.specs.Prelude.{filter, if◌then◌else◌}
use Rattle.std.specs.List.{range_with_len}
use Rattle.std.proofs.lemmas.Bool.{eq-eqb, ne_eqb, cases_eq}
use Rattle.std.proofs.lemmas.List.Elements.{All-cons, All-head, All-tail, All-weaker}
use Rattle.std.proofs.lemmas.List.Folds.{list_any_none}
use Rattle.np_flat.specs.Flats.{IsAscending, AreNumbers}
use Rattle.np_flat.specs.States.{has}
use Rattle.np_flat.proofs.Ascending.{above_first, ascending_rest}
use Rattle.np_blind.specs.Bits.{bit}
use Rattle.np_blind.specs.Readings.{true_numbers, bits_of}
use Rattle.np_blind.proofs.Bits.{bit_of, length-bits_of}

-- tests that answer alike on a range filter it alike
pub filter_alike : (f g : ℕ → Bool) (n a : ℕ) → ((p : ℕ) → a ≤ p → p < a + n → f p ≡ g p) → filter f (range_with_len a n) ≡ filter g (range_with_len a n)
filter_alike f g zero a alike = refl
filter_alike f g (suc n) a alike =
    let rest : filter f (range_with_len (a + 1) n) ≡ filter g (range_with_len (a + 1) n) = filter_alike f g n (a + 1) (λ p h k. alike p (omega arith) (omega arith)) in
    ap (λ b. if b then a ∷ filter f (range_with_len (a + 1) n) else filter f (range_with_len (a + 1) n)) (alike a (omega arith) (omega arith))
    ∙ ap (λ xs. if g a then a ∷ xs else xs) rest

-- a number below all isn't in the list
not_below : (xs : List ℕ) (k : ℕ) → All (λ x. k < x) xs → has xs k ≡ false
not_below xs k above = list_any_none (λ m. eqb m k) xs (λ i d h. let lt : k < get_or xs i d = above i d h in ne_eqb (get_or xs i d) k (λ e. omega arith))

-- of a range, those in an ascending list that lies in it are the list
numbers_back : (n a : ℕ) (xs : List ℕ) → IsAscending xs → All (λ x. a ≤ x) xs → All (λ x. x < a + n) xs → filter (has xs) (range_with_len a n) ≡ xs
numbers_back zero a [] up low high = refl
numbers_back zero a (x ∷ xs) up low high =
    let least : a ≤ x = All-head (λ y. a ≤ y) x xs low in
    let most : x < a + 0 = All-head (λ y. y < a + 0) x xs high in
    absurd (omega arith)
numbers_back (suc n) a [] up low high = numbers_back n (a + 1) [] up (λ i d h. absurd (omega arith)) (λ i d h. absurd (omega arith))
numbers_back (suc n) a (x ∷ xs) up low high =
    let within : All (λ y. y < (a + 1) + n) (x ∷ xs) = All-weaker (λ y. y < a + suc n) (λ y. y < (a + 1) + n) (λ y h. omega arith) (x ∷ xs) high in
    let above : All (λ y. x < y) xs = above_first x xs up in
    elim (cases_eq x a) [
      | inl e ↦
          let later : All (λ y. a + 1 ≤ y) xs = All-weaker (λ y. x < y) (λ y. a + 1 ≤ y) (λ y h. omega arith) xs above in
          let rest : filter (has xs) (range_with_len (a + 1) n) ≡ xs = numbers_back n (a + 1) xs (ascending_rest x xs up) later (All-tail (λ y. y < (a + 1) + n) x xs within) in
          let alike : filter (has (x ∷ xs)) (range_with_len (a + 1) n) ≡ filter (has xs) (range_with_len (a + 1) n) =
          filter_alike (has (x ∷ xs)) (has xs) n (a + 1) (λ p h k. ap (λ b. b || has xs p) (ne_eqb x p (λ same. omega arith))) in
          ap (λ b. if b then a ∷ filter (has (x ∷ xs)) (range_with_len (a + 1) n) else filter (has (x ∷ xs)) (range_with_len (a + 1) n)) (ap (λ b. b || has xs a) (eq-eqb x a e))
          ∙ ap (λ ys. a ∷ ys) (alike ∙ rest)
          ∙ ap (λ y. y ∷ xs) (sym e)
      | inr ne ↦
          let least : a ≤ x = All-head (λ y. a ≤ y) x xs low in
          let first : a < x = omega arith in
          ap (λ b. if b then a ∷ filter (has (x ∷ xs)) (range_with_len (a + 1) n) else filter (has (x ∷ xs)) (range_with_len (a + 1) n)) (not_below (x ∷ xs) a (later_all first above))
          ∙ numbers_back n (a + 1) (x ∷ xs) up (All-weaker (λ y. a < y) (λ y. a + 1 ≤ y) (λ y h. omega arith) (x ∷ xs) (later_all first above)) within
    ]
  where
    later_all : a < x → All (λ y. x < y) xs → All (λ y. a < y) (x ∷ xs)
    later_all first above = All-cons (λ y. a < y) x xs first (All-weaker (λ y. x < y) (λ y. a < y) (λ y h. omega arith) xs above)

-- ascending numbers below the count are the true numbers of their bits
pub true_back : (count : ℕ) (numbers : List ℕ) → AreNumbers count numbers → true_numbers (bits_of count numbers) ≡ numbers
true_back count numbers are =
    ap (λ n. filter (bit (bits_of count numbers)) (range_with_len 0 n)) (length-bits_of count numbers)
    ∙ filter_alike (bit (bits_of count numbers)) (has numbers) count 0 (λ p h k. bit_of count numbers p (omega arith))
    ∙ numbers_back count 0 numbers are.ascending (λ i d h. omega arith) (All-weaker (λ y. y < count) (λ y. y < 0 + count) (λ y h. omega arith) numbers are.within)
