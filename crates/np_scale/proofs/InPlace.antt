-- Pairs by ascending number.
use Rattle.std.proofs.Common.{◌≡◌, ◌≢◌, ℕ, suc, ◌≤◌, ◌<◌, Bool, true, false, refl, ◌∙◌, ap, arith, List, [], ◌∷◌, map, length}
use Rattle.std.specs.Prelude.{nat_lt, if◌then◌else◌}
use Rattle.std.specs.List.{AllByRecursion}
use Rattle.std.proofs.lemmas.Bool.{ltb-true, ltb-false}
use Rattle.std.proofs.lemmas.List.Elements.{All-from_recursion}
use Rattle.np_flat.specs.Flats.{IsAscending, AreNumbers}
use Rattle.np_flat.proofs.Ascending.{ascending_nil, ascending_cons}
use Rattle.np_scale.specs.Forms.{in_place, by_number}
use Rattle.np_scale.proofs.Every.{each_weaker, each_map}

-- each number is less than the later ones
abbrev pub Rising : {A : Type 0} → List (ℕ × A) → Type 0
Rising [] = Unit {0}
Rising (x ∷ xs) = AllByRecursion (λ y. x.0 < y.0) xs × Rising xs

-- no two numbers are the same
abbrev pub Apart : {A : Type 0} → List (ℕ × A) → Type 0
Apart [] = Unit {0}
Apart (x ∷ xs) = AllByRecursion (λ y. x.0 ≢ y.0) xs × Apart xs

-- what holds of the pair and of the others holds of all
pub each_in_place : {A : Type 0} (P : ℕ × A → Type 0) (x : ℕ × A) (ys : List (ℕ × A)) → P x → AllByRecursion P ys → AllByRecursion P (in_place x ys)
each_in_place P x [] h all = (h, tt)
each_in_place P x (y ∷ ys) h all = by (nat_lt x.0 y.0) (each_in_place P x ys h all.1)
  where
    by : (b : Bool) → AllByRecursion P (in_place x ys) → AllByRecursion P (if b then x ∷ y ∷ ys else y ∷ in_place x ys)
    by true rest = (h, all)
    by false rest = (all.0, rest)

pub each_ascending : {A : Type 0} (P : ℕ × A → Type 0) (xs : List (ℕ × A)) → AllByRecursion P xs → AllByRecursion P (by_number xs)
each_ascending P [] all = tt
each_ascending P (x ∷ xs) all = each_in_place P x (by_number xs) all.0 (each_ascending P xs all.1)

-- a pair in its place keeps the order
rising_in_place : {A : Type 0} (x : ℕ × A) (ys : List (ℕ × A)) → AllByRecursion (λ y. x.0 ≢ y.0) ys → Rising ys → Rising (in_place x ys)
rising_in_place x [] apart up = (tt, tt)
rising_in_place x (y ∷ ys) apart up = by (nat_lt x.0 y.0) refl (rising_in_place x ys apart.1 up.1)
  where
    less : x.0 < y.0 → (n : ℕ) → y.0 < n → x.0 < n
    less lt n h = omega arith

    other : y.0 ≤ x.0 → x.0 ≢ y.0 → y.0 < x.0
    other ge ne = omega arith

    by : (b : Bool) → nat_lt x.0 y.0 ≡ b → Rising (in_place x ys) → Rising (if b then x ∷ y ∷ ys else y ∷ in_place x ys)
    by true lt rest =
        ((ltb-true x.0 y.0 lt, each_weaker (λ z. y.0 < z.0) (λ z. x.0 < z.0) (λ z h. less (ltb-true x.0 y.0 lt) z.0 h) ys up.0), up)
    by false ge rest = (each_in_place (λ z. y.0 < z.0) x ys (other (ltb-false x.0 y.0 ge) apart.0) up.0, rest)

pub rising_ascending : {A : Type 0} (xs : List (ℕ × A)) → Apart xs → Rising (by_number xs)
rising_ascending [] apart = tt
rising_ascending (x ∷ xs) apart = rising_in_place x (by_number xs) (each_ascending (λ y. x.0 ≢ y.0) xs apart.0) (rising_ascending xs apart.1)

-- as many
length_in_place : {A : Type 0} (x : ℕ × A) (ys : List (ℕ × A)) → length (in_place x ys) ≡ suc (length ys)
length_in_place x [] = refl
length_in_place x (y ∷ ys) = by (nat_lt x.0 y.0) (length_in_place x ys)
  where
    by : (b : Bool) → length (in_place x ys) ≡ suc (length ys) → length (if b then x ∷ y ∷ ys else y ∷ in_place x ys) ≡ suc (suc (length ys))
    by true e = refl
    by false e = ap suc e

pub length_ascending : {A : Type 0} (xs : List (ℕ × A)) → length (by_number xs) ≡ length xs
length_ascending [] = refl
length_ascending (x ∷ xs) = length_in_place x (by_number xs) ∙ ap suc (length_ascending xs)

-- the numbers stay where the other parts are changed
pub rising_map : {A B : Type 0} (f : ℕ × A → B) (xs : List (ℕ × A)) → Rising xs → Rising (map (λ x. (x.0, f x)) xs)
rising_map f [] up = tt
rising_map {A} {B} f (x ∷ xs) up = (above xs up.0, rising_map f xs up.1)
  where
    above : (ys : List (ℕ × A)) → AllByRecursion (λ y. x.0 < y.0) ys → AllByRecursion (λ (y : ℕ × B). x.0 < y.0) (map (λ (y : ℕ × A). (y.0, f y)) ys)
    above [] all = tt
    above (y ∷ ys) all = (all.0, above ys all.1)

-- ascending numbers below the limit
pub numbers_of_rising : {A : Type 0} (limit : ℕ) (xs : List (ℕ × A)) → Rising xs → AllByRecursion (λ x. x.0 < limit) xs → AreNumbers limit (map (λ x. x.0) xs)
numbers_of_rising {A} limit xs up below = record {
  ascending = up_from xs up;
  within = All-from_recursion (λ n. n < limit) (map (λ x. x.0) xs) (each_map (λ n. n < limit) (λ x. x.0) xs below);
}
  where
    up_from : (ys : List (ℕ × A)) → Rising ys → IsAscending (map (λ y. y.0) ys)
    up_from [] up = ascending_nil
    up_from (y ∷ ys) up =
        ascending_cons y.0 (map (λ z. z.0) ys) (All-from_recursion (λ n. y.0 < n) (map (λ z. z.0) ys) (each_map (λ n. y.0 < n) (λ z. z.0) ys up.0)) (up_from ys up.1)
