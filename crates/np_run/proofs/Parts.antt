-- Parts taken in one after another.
use Rattle.std.proofs.Common.{◌≡◌, ℕ, zero, suc, ◌<◌, refl, ap, sym, arith, List, [], ◌∷◌, drop, length, map, Bool, Ok, Result}
use Rattle.std.specs.Prelude.{slice_index_or}
use Rattle.np_frac.specs.Fractions.{Fraction}
use Rattle.np_model.specs.declared.task.Sum.{Sum}
use Rattle.np_run.specs.declared.halt.Lack.{Lack}
use Rattle.np_run.specs.Computing.{taken_in, parts_from}

-- an item at a place begins the rest from there
pub drop_at : {A : Type 0} (xs : List A) (i : ℕ) (x : A) → i < length xs → x ≡ slice_index_or xs i x → drop i xs ≡ x ∷ drop (suc i) xs
drop_at [] i x h e = absurd (omega arith)
drop_at (y ∷ ys) zero x h e = ap (λ z. z ∷ ys) (sym e)
drop_at (y ∷ ys) (suc i) x h e = drop_at ys i x (omega arith) e

pub parts_step : (adds : Bool) (f : Sum → Result Fraction Lack) (total : Fraction) (xs : List Sum) (i : ℕ) (x : Sum) (v t : Fraction)
    → i < length xs → x ≡ slice_index_or xs i x → f x ≡ Ok v → taken_in adds total v ≡ Ok t
    → parts_from adds total (map f (drop i xs)) ≡ parts_from adds t (map f (drop (suc i) xs))
parts_step adds f total xs i x v t h e one two = rw (drop_at xs i x h e, one, two) refl
