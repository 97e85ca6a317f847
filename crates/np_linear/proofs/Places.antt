-- Lists at a place.
use Rattle.std.proofs.Common.{◌≡◌, ℕ, zero, suc, ◌<◌, ◌++◌, refl, sym, ap, arith, List, [], ◌∷◌, take, drop, length}
use Rattle.std.specs.Prelude.{slice_set, slice_index_or, Bool, true, Ok}
use Rattle.np_frac.specs.Fractions.{Fraction}
use Rattle.np_model.specs.declared.task.Term.{Term}
use Rattle.np_model.specs.Ground.{same_term}
use Rattle.np_linear.specs.Answers.{and_then}
use Rattle.np_linear.specs.Linears.{checked_sum, with_term, with_multiple}

-- a list with a new item in a place
pub set_parts : {A : Type 0} (xs : List A) (i : ℕ) (x : A) → i < length xs → slice_set xs i x ≡ take i xs ++ x ∷ drop (suc i) xs
set_parts [] i x h = absurd (omega arith)
set_parts (y ∷ ys) zero x h = refl
set_parts (y ∷ ys) (suc i) x h = ap (λ zs. y ∷ zs) (set_parts ys i x (omega arith))

-- an item at a place begins the rest from there
pub drop_at : {A : Type 0} (xs : List A) (i : ℕ) (x : A) → i < length xs → x ≡ slice_index_or xs i x → drop i xs ≡ x ∷ drop (suc i) xs
drop_at [] i x h e = absurd (omega arith)
drop_at (y ∷ ys) zero x h e = ap (λ z. z ∷ ys) (sym e)
drop_at (y ∷ ys) (suc i) x h e = drop_at ys i x (omega arith) e

-- a multiple of a term that is at a place is taken in there
pub put_here : (zeros up : Bool) (t : Term) (c : Fraction) (xs : List (Term × Fraction)) (i : ℕ) (x : Term × Fraction) (s : Fraction)
    → i < length xs → x ≡ slice_index_or xs i x → same_term t x.0 ≡ true → checked_sum up x.1 c ≡ Ok s
    → and_then (with_multiple zeros up t c (drop i xs)) (λ ys. Ok (take i xs ++ ys)) ≡ Ok (take i xs ++ with_term zeros t s (drop (suc i) xs))
put_here zeros up t c xs i x s h e same is = rw (drop_at xs i x h e, same, is) refl
