-- Sums of what the places of a list give.
use Rattle.std.proofs.Common.{◌≡◌, ℕ, zero, suc, ◌<◌, ◌≤◌, List, [], ◌∷◌, Some, length, slice_get, refl, arith, Bool, true, false, if◌then◌else◌}
use Rattle.std.specs.List.{sum_by}
use Rattle.std.proofs.lemmas.List.Recursion.{is_sum_by}
use Rattle.np_search.specs.Weights.{sum_at}

-- one where it is true
abbrev pub bit : Bool → ℕ
bit b = if b then 1 else 0

-- one at most
pub bit_le_one : (b : Bool) → bit b ≤ 1
bit_le_one true = omega arith
bit_le_one false = omega arith

module _ {A : Type 0} where
  pub sum_at_le : (f g : ℕ → A → ℕ) (xs ys : List A) → length xs ≡ length ys → ((i : ℕ) (x y : A) → slice_get xs i ≡ Some x → slice_get ys i ≡ Some y → f i x ≤ g i y) → sum_at f xs ≤ sum_at g ys
  sum_at_le f g [] ys same each = omega arith
  sum_at_le f g (x ∷ xs) [] same each = absurd (omega arith)
  sum_at_le f g (x ∷ xs) (y ∷ ys) same each =
      let here : f 0 x ≤ g 0 y = each 0 x y refl refl in
      let rest : sum_at (λ i. f (suc i)) xs ≤ sum_at (λ i. g (suc i)) ys = sum_at_le (λ i. f (suc i)) (λ i. g (suc i)) xs ys (omega arith) (λ i a b p q. each (suc i) a b p q) in
      omega arith

  pub sum_at_lt : (f g : ℕ → A → ℕ) (xs ys : List A) (k : ℕ) (p q : A) → length xs ≡ length ys → ((i : ℕ) (x y : A) → slice_get xs i ≡ Some x → slice_get ys i ≡ Some y → f i x ≤ g i y) → slice_get xs k ≡ Some p → slice_get ys k ≡ Some q → f k p < g k q → sum_at f xs < sum_at g ys
  sum_at_lt f g [] ys k p q same each at bt less = absurd (cc)
  sum_at_lt f g (x ∷ xs) [] k p q same each at bt less = absurd (cc)
  sum_at_lt f g (x ∷ xs) (y ∷ ys) zero p q same each at bt less =
      let left : x ≡ p = cc in
      let right : y ≡ q = cc in
      let here : f 0 x < g 0 y = rw (left, right) less in
      let rest : sum_at (λ i. f (suc i)) xs ≤ sum_at (λ i. g (suc i)) ys = sum_at_le (λ i. f (suc i)) (λ i. g (suc i)) xs ys (omega arith) (λ i a b p q. each (suc i) a b p q) in
      omega arith
  sum_at_lt f g (x ∷ xs) (y ∷ ys) (suc k) p q same each at bt less =
      let here : f 0 x ≤ g 0 y = each 0 x y refl refl in
      let rest : sum_at (λ i. f (suc i)) xs < sum_at (λ i. g (suc i)) ys = sum_at_lt (λ i. f (suc i)) (λ i. g (suc i)) xs ys k p q (omega arith) (λ i a b p q. each (suc i) a b p q) at bt less in
      omega arith

  -- where the place doesn't matter it is std's sum
  pub sum_at_is : (f : A → ℕ) (xs : List A) → sum_at (λ i. f) xs ≡ sum_by f xs
  sum_at_is f xs = is_sum_by (λ (ys : List A). sum_at (λ i. f) ys) f refl (λ _ _. refl) xs
