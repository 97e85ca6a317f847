-- A common member is one either positive.
use Rattle.std.proofs.Common.{◌≡◌, ℕ, Bool, true, false, ◌||◌, eqb, List, [], ◌∷◌, refl, sym, ap, subst, inl, inr}
use Rattle.std.specs.List.{list_any}
use Rattle.std.proofs.lemmas.Bool.{eqb-true, eq-eqb, or_cases, or_left, or_right, false≢true}
use Rattle.np_flat.specs.States.{has}
use Rattle.np_count.proofs.Tests.{any_from}

through : (xs ys : List ℕ) (x : ℕ) → has xs x ≡ true → has ys x ≡ true → list_any (has ys) xs ≡ true
through [] ys x here there = absurd (false≢true here)
through (z ∷ zs) ys x here there =
    elim (or_cases (eqb z x) (has zs x) here) [
      | inl e ↦ or_left (has ys z) (list_any (has ys) zs) (subst (λ y. has ys y ≡ true) (sym (eqb-true z x e)) there)
      | inr more ↦ or_right (has ys z) (list_any (has ys) zs) (through zs ys x more there)
    ]

turned : (xs ys : List ℕ) → list_any (has xs) ys ≡ true → list_any (has ys) xs ≡ true
turned xs [] some = absurd (false≢true some)
turned xs (y ∷ ys) some =
    elim (or_cases (has xs y) (list_any (has xs) ys) some) [
      | inl here ↦ through xs (y ∷ ys) y here (or_left (eqb y y) (has ys y) (eq-eqb y y refl))
      | inr there ↦ any_from (has ys) (has (y ∷ ys)) xs (λ x h. or_right (eqb y x) (has ys x) h) (turned xs ys there)
    ]

both : (a b : Bool) → (a ≡ true → b ≡ true) → (b ≡ true → a ≡ true) → a ≡ b
both true b to from = sym (to refl)
both false true to from = from refl
both false false to from = refl

pub common : (xs ys : List ℕ) → list_any (has xs) ys ≡ list_any (has ys) xs
common xs ys = both (list_any (has xs) ys) (list_any (has ys) xs) (turned xs ys) (turned ys xs)

pub any_same : (f g : ℕ → Bool) (xs : List ℕ) → ((x : ℕ) → f x ≡ g x) → list_any f xs ≡ list_any g xs
any_same f g [] same = refl
any_same f g (x ∷ xs) same = rw (same x) (ap (λ b. g x || b) (any_same f g xs same))
