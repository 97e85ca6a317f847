-- When comparisons hold.
use Rattle.std.proofs.Common.{◌≡◌, ℕ, true, false, refl, ◌∙◌, ap, List}
use Rattle.std.specs.Prelude.{Some, None, not}
use Rattle.std.specs.Ordering.{is_lt, is_gt, is_le, is_ge}
use Rattle.std.specs.declared.cmp.Ordering.{Ordering}
use Rattle.std.specs.declared.cmp.Ordering.TheVariants as order
use Rattle.np_frac.specs.Fractions.{Fraction, fraction_cmp}
use Rattle.np_model.specs.declared.task.Op.{Op}
use Rattle.np_model.specs.declared.task.Op.TheVariants.{Less, Greater, AtMost, AtLeast, Equal}
use Rattle.np_model.specs.declared.task.Sum.{Sum}
use Rattle.np_model.specs.declared.task.Cond.TheVariants.{Compare}
use Rattle.np_model.specs.States.{State}
use Rattle.np_model.specs.Values.{value_of, of_both}
use Rattle.np_model.specs.Conditions.{compares, turned, is_order, is_yes, holds}
use Rattle.np_model.proofs.Sums.{of_both_missing}

-- a comparison whose left side has no value doesn't hold, whichever way it is turned
pub left_missing : (objects : List ℕ) (s : State) (op : Op) (x y : Sum) → value_of objects s x ≡ None → holds objects s (Compare op x y) ≡ false
left_missing objects s op x y e = ap (λ v. is_yes (of_both (compares op) v (value_of objects s y))) e

-- nor does one whose right side has none
pub right_missing : (objects : List ℕ) (s : State) (op : Op) (x y : Sum) → value_of objects s y ≡ None → holds objects s (Compare op x y) ≡ false
right_missing objects s op x y e =
    ap (λ v. is_yes (of_both (compares op) (value_of objects s x) v)) e ∙ ap is_yes (of_both_missing (compares op) (value_of objects s x))

-- a comparison of two values
pub compared : (objects : List ℕ) (s : State) (op : Op) (x y : Sum) (v w : Fraction) → value_of objects s x ≡ Some v → value_of objects s y ≡ Some w → holds objects s (Compare op x y) ≡ compares op v w
compared objects s op x y v w e f =
    ap (λ a. is_yes (of_both (compares op) a (value_of objects s y))) e ∙ ap (λ b. is_yes (of_both (compares op) (Some v) b)) f

-- an order comparison turned round holds exactly where it doesn't itself
pub turned_compares : (op : Op) (x y : Fraction) → is_order op ≡ true → compares (turned op) x y ≡ not (compares op x y)
turned_compares Less x y h = by (fraction_cmp x y)
  where
    by : (o : Ordering) → is_ge o ≡ not (is_lt o)
    by order.Less = refl
    by order.Equal = refl
    by order.Greater = refl
turned_compares Greater x y h = by (fraction_cmp x y)
  where
    by : (o : Ordering) → is_le o ≡ not (is_gt o)
    by order.Less = refl
    by order.Equal = refl
    by order.Greater = refl
turned_compares AtMost x y h = by (fraction_cmp x y)
  where
    by : (o : Ordering) → is_gt o ≡ not (is_le o)
    by order.Less = refl
    by order.Equal = refl
    by order.Greater = refl
turned_compares AtLeast x y h = by (fraction_cmp x y)
  where
    by : (o : Ordering) → is_lt o ≡ not (is_ge o)
    by order.Less = refl
    by order.Equal = refl
    by order.Greater = refl
turned_compares Equal x y h = absurd (not_yes h)
  where
    not_yes : false ≡ true → ⊥
    not_yes e = cc
