-- The place of a pair by number.
use Rattle.std.proofs.Common.{◌≡◌, ℕ, suc, ◌+◌, ◌<◌, ◌≤◌, Bool, true, false, refl, ◌∙◌, ap, arith, List, [], ◌∷◌, length, drop, get_or}
use Rattle.std.specs.Prelude.{not, nat_lt, if◌then◌else◌}
use Rattle.std.specs.List.{position_or_len, insert}
use Rattle.std.proofs.lemmas.List.{drop_more, drop_all}
use Rattle.np_scale.specs.Forms.{in_place}

-- the first place at which a test passes, from the place reached
pub place_more : {A : Type 0} (p : A → Bool) (xs : List A) (i : ℕ) (d : A) (all : ℕ) → i < length xs → p (get_or xs i d) ≡ false
    → all ≡ i + position_or_len p (drop i xs) → all ≡ (i + 1) + position_or_len p (drop (i + 1) xs)
place_more p xs i d all within fails e =
    let step : position_or_len p (drop i xs) ≡ 1 + position_or_len p (drop (i + 1) xs) =
    ap (position_or_len p) (drop_more xs i d within) ∙ ap (λ b. if not b then 1 + position_or_len p (drop (i + 1) xs) else 0) fails in
    omega (arith, e, step)

pub place_found : {A : Type 0} (p : A → Bool) (xs : List A) (i : ℕ) (d : A) (all : ℕ) → i < length xs → p (get_or xs i d) ≡ true
    → all ≡ i + position_or_len p (drop i xs) → i ≡ all
place_found p xs i d all within passes e =
    let step : position_or_len p (drop i xs) ≡ 0 =
    ap (position_or_len p) (drop_more xs i d within) ∙ ap (λ b. if not b then 1 + position_or_len p (drop (i + 1) xs) else 0) passes in
    omega (arith, e, step)

pub place_end : {A : Type 0} (p : A → Bool) (xs : List A) (i all : ℕ) → length xs ≤ i → i ≤ length xs → all ≡ i + position_or_len p (drop i xs) → length xs ≡ all
place_end p xs i all past within e =
    let step : position_or_len p (drop i xs) ≡ 0 = ap (position_or_len p) (drop_all i xs past) in
    omega (arith, e, step)

-- a pair in its place
pub in_place_inserted : {A : Type 0} (x : ℕ × A) (ys : List (ℕ × A)) → insert ys (position_or_len (λ y. nat_lt x.0 y.0) ys) x ≡ in_place x ys
in_place_inserted x [] = refl
in_place_inserted x (y ∷ ys) = by (nat_lt x.0 y.0) (in_place_inserted x ys)
  where
    counted : (b : Bool) → b ≡ false → insert (y ∷ ys) (if not b then 1 + position_or_len (λ z. nat_lt x.0 z.0) ys else 0) x ≡ y ∷ insert ys (position_or_len (λ z. nat_lt x.0 z.0) ys) x
    counted b e = ap (λ n. insert (y ∷ ys) n x) (ap (λ c. if not c then 1 + position_or_len (λ z. nat_lt x.0 z.0) ys else 0) e ∙ turned (position_or_len (λ z. nat_lt x.0 z.0) ys))
      where
        turned : (n : ℕ) → 1 + n ≡ suc n
        turned n = omega arith

    by : (b : Bool) → insert ys (position_or_len (λ z. nat_lt x.0 z.0) ys) x ≡ in_place x ys
        → insert (y ∷ ys) (if not b then 1 + position_or_len (λ z. nat_lt x.0 z.0) ys else 0) x ≡ (if b then x ∷ y ∷ ys else y ∷ in_place x ys)
    by true e = refl
    by false e = counted false refl ∙ ap (λ l. y ∷ l) e
