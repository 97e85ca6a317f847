-- Sums of values that may be missing.
use Rattle.std.proofs.Common.{◌≡◌, pos, refl, sym, ◌∙◌, ap, arith, List, [], ◌∷◌}
use Rattle.std.specs.Prelude.{Option, Some, None, fold}
use Rattle.np_frac.specs.Fractions.{Fraction, whole, plus, minus}
use Rattle.np_frac.specs.Field.{frac, int, sum, rest, field, plus_assoc, plus_comm, plus-zero}
use Rattle.np_model.specs.Values.{of_both, negated, sum_of}

-- to add the negated number is to subtract it
pub plus-negated : (x y : Fraction) → plus x (negated y) ≡ minus x y
plus-negated x y = field (sum (frac x) (rest (int (pos 0)) (frac y))) (rest (frac x) (frac y)) (omega arith)

-- a sum with a part missing is missing
pub of_both_missing : {A : Type 0} (f : Fraction → Fraction → A) (x : Option Fraction) → of_both f x None ≡ None
of_both_missing f None = refl
of_both_missing f (Some x) = refl

pub sum_assoc : (x y z : Option Fraction) → of_both plus (of_both plus x y) z ≡ of_both plus x (of_both plus y z)
sum_assoc None y z = refl
sum_assoc (Some x) None z = refl
sum_assoc (Some x) (Some y) None = refl
sum_assoc (Some x) (Some y) (Some z) = ap Some (plus_assoc x y z)

pub sum_comm : (x y : Option Fraction) → of_both plus x y ≡ of_both plus y x
sum_comm None None = refl
sum_comm None (Some y) = refl
sum_comm (Some x) None = refl
sum_comm (Some x) (Some y) = ap Some (plus_comm x y)

pub sum_zero : (x : Option Fraction) → of_both plus x (Some (whole (pos 0))) ≡ x
sum_zero None = refl
sum_zero (Some x) = ap Some (plus-zero x)

pub sum_left_zero : (y : Option Fraction) → of_both plus (Some (whole (pos 0))) y ≡ y
sum_left_zero y = sum_comm (Some (whole (pos 0))) y ∙ sum_zero y

-- a sum from some value on is that value and the sum
pub sum_from : (x : Option Fraction) (ys : List (Option Fraction)) → fold (of_both plus) x ys ≡ of_both plus x (sum_of ys)
sum_from x [] = sym (sum_zero x)
sum_from x (y ∷ ys) =
    sum_from (of_both plus x y) ys
    ∙ sum_assoc x y (sum_of ys)
    ∙ ap (of_both plus x) (sym (sum_from y ys) ∙ ap (λ z. fold (of_both plus) z ys) (sym (sum_left_zero y)))

-- a sum is its first part and the sum of the others
pub sum_of-cons : (y : Option Fraction) (ys : List (Option Fraction)) → sum_of (y ∷ ys) ≡ of_both plus y (sum_of ys)
sum_of-cons y ys = ap (λ z. fold (of_both plus) z ys) (sum_left_zero y) ∙ sum_from y ys
