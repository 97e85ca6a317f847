-- Places of a list after a push and a write.
use Rattle.std.proofs.Common.{◌≡◌, ◌≢◌, ℕ, zero, suc, List, [], ◌∷◌, ◌++◌, Some, length, set, slice_get, refl, ap, arith, ◌⊎◌, inl, inr}
use Rattle.std.proofs.lemmas.Option.{same_Some}

-- a place is the last, or was there
pub get_push : {X : Type 0} (xs : List X) (y : X) (i : ℕ) (n : X) → slice_get (xs ++ y ∷ []) i ≡ Some n → ((i ≡ length xs) × (y ≡ n)) ⊎ (slice_get xs i ≡ Some n)
get_push [] y zero n e = inl (refl, same_Some y n e)
get_push [] y (suc i) n e = absurd (cc)
get_push (x ∷ xs) y zero n e = inr e
get_push (x ∷ xs) y (suc i) n e = by (get_push xs y i n e)
  where
    by : ((i ≡ length xs) × (y ≡ n)) ⊎ (slice_get xs i ≡ Some n) → ((suc i ≡ length (x ∷ xs)) × (y ≡ n)) ⊎ (slice_get xs i ≡ Some n)
    by (inl h) = inl (ap suc h.0, h.1)
    by (inr h) = inr h

pub get_before_push : {X : Type 0} (xs : List X) (y : X) (i : ℕ) (n : X) → slice_get xs i ≡ Some n → slice_get (xs ++ y ∷ []) i ≡ Some n
get_before_push [] y i n e = absurd (cc)
get_before_push (x ∷ xs) y zero n e = e
get_before_push (x ∷ xs) y (suc i) n e = get_before_push xs y i n e

pub get_at_push : {X : Type 0} (xs : List X) (y : X) → slice_get (xs ++ y ∷ []) (length xs) ≡ Some y
get_at_push [] y = refl
get_at_push (x ∷ xs) y = get_at_push xs y

-- a place is the one that is written, or stays
pub get_set : {X : Type 0} (xs : List X) (j : ℕ) (y : X) (i : ℕ) (n : X) → slice_get (set xs j y) i ≡ Some n → ((i ≡ j) × (y ≡ n)) ⊎ ((i ≢ j) × (slice_get xs i ≡ Some n))
get_set [] j y i n e = absurd (cc)
get_set (x ∷ xs) zero y zero n e = inl (refl, same_Some y n e)
get_set (x ∷ xs) zero y (suc i) n e = inr (λ h. omega arith, e)
get_set (x ∷ xs) (suc j) y zero n e = inr (λ h. omega arith, e)
get_set (x ∷ xs) (suc j) y (suc i) n e = by (get_set xs j y i n e)
  where
    by : ((i ≡ j) × (y ≡ n)) ⊎ ((i ≢ j) × (slice_get xs i ≡ Some n)) → ((suc i ≡ suc j) × (y ≡ n)) ⊎ ((suc i ≢ suc j) × (slice_get xs i ≡ Some n))
    by (inl h) = inl (ap suc h.0, h.1)
    by (inr h) = inr (λ e. let ne = h.0 in ne (omega arith), h.1)

pub get_at_set : {X : Type 0} (xs : List X) (j : ℕ) (y n : X) → slice_get xs j ≡ Some n → slice_get (set xs j y) j ≡ Some y
get_at_set [] j y n e = absurd (cc)
get_at_set (x ∷ xs) zero y n e = refl
get_at_set (x ∷ xs) (suc j) y n e = get_at_set xs j y n e

pub get_beside_set : {X : Type 0} (xs : List X) (j : ℕ) (y : X) (i : ℕ) (n : X) → i ≢ j → slice_get xs i ≡ Some n → slice_get (set xs j y) i ≡ Some n
get_beside_set [] j y i n ne e = absurd (cc)
get_beside_set (x ∷ xs) zero y zero n ne e = absurd (ne refl)
get_beside_set (x ∷ xs) zero y (suc i) n ne e = e
get_beside_set (x ∷ xs) (suc j) y zero n ne e = e
get_beside_set (x ∷ xs) (suc j) y (suc i) n ne e = get_beside_set xs j y i n (λ h. ne (ap suc h)) e

-- a place of a list as long has an element too
pub get_beside : {X Y : Type 0} (xs : List X) (ys : List Y) (i : ℕ) (x : X) → length xs ≡ length ys → slice_get xs i ≡ Some x → (y : Y) × (slice_get ys i ≡ Some y)
get_beside [] ys i x same e = absurd (cc)
get_beside (x ∷ xs) [] i n same e = absurd (omega arith)
get_beside (x ∷ xs) (y ∷ ys) zero n same e = (y, refl)
get_beside (x ∷ xs) (y ∷ ys) (suc i) n same e = get_beside xs ys i n (omega arith) e
