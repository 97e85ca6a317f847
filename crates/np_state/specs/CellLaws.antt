-- Whole numbers and fractions as cells.
use Rattle.std.specs.Prelude.{◌≡◌, ◌<◌, ◌^◌, ◌==◌, ◌&&◌, Bool, true, false, ℤ, pos, ◌+ℤ◌, ◌*ℤ◌, unsigned_abs, nat_lt}
use Rattle.std.proofs.Common.{refl, sym, ap, subst, ◌∙◌, arith, true≢false}
use Rattle.std.proofs.lemmas.Bool.Decides.{Decides-int_eq, Decides-eqb}
use Rattle.std.proofs.lemmas.Bool.{ltb-true, lt-ltb}
use Rattle.std.proofs.lemmas.Int.{ints}
use Rattle.std.specs.Ordering.{int_eq}
use Rattle.np_frac.specs.Fractions.{Fraction, whole, plus, fraction_eq}
use Rattle.np_frac.specs.Field.{whole_plus, whole_num, same_whole}
use Rattle.np_frac.specs.Order.{fraction_eq_laws}
use Rattle.np_frac.specs.Checked.{plus_fits, sum_fits}
use Rattle.np_frac.specs.Gcd.{gcd, gcd-one}
use Rattle.std.proofs.Common.{◌≤◌}
use Rattle.np_state.specs.Cells.{is_small_whole, are_small_wholes}

-- equal whole numbers are the same fraction
pub same_int : (a b : ℤ) → int_eq a b ≡ true → whole a ≡ whole b
same_int a b e = ap whole ((Decides-int_eq a b).0 e)

-- the same fraction comes from equal whole numbers
pub alike_int : (a b : ℤ) → whole a ≡ whole b → int_eq a b ≡ true
alike_int a b e = (Decides-int_eq a b).1 (same_whole a b e)

-- the same fraction is equal
pub alike_fraction : (a b : Fraction) → a ≡ b → fraction_eq a b ≡ true
alike_fraction a b e = subst (λ x. fraction_eq a x ≡ true) e (fraction_eq_laws.refl a)

-- the exact sum
pub int_moves : (a b : ℤ) → plus (whole a) (whole b) ≡ whole (a +ℤ b)
int_moves = whole_plus

-- two truths, taken apart
both_of : (a b : Bool) → (a && b) ≡ true → (a ≡ true) × (b ≡ true)
both_of true b e = (refl, e)
both_of false b e = absurd (cc)

-- what a small whole number is
small : (x : Fraction) → is_small_whole x ≡ true → (x.den ≡ 1) × (unsigned_abs x.num < 2 ^ 120)
small x e =
    let parts = both_of (x.den == 1) (nat_lt (unsigned_abs x.num) (2 ^ 120)) e in
    ((Decides-eqb x.den 1).0 parts.0, ltb-true _ _ parts.1)

-- a sum of small whole numbers that is small
pub int_small : (a b : ℤ) → are_small_wholes (whole a) (whole b) ≡ true → unsigned_abs (a +ℤ b) < 2 ^ 120
int_small a b h =
    let parts = both_of (is_small_whole (whole a)) (is_small_whole (whole b) && is_small_whole (plus (whole a) (whole b))) h in
    let more = both_of (is_small_whole (whole b)) (is_small_whole (plus (whole a) (whole b))) parts.1 in
    let sum = small (whole (a +ℤ b)) (subst (λ x. is_small_whole x ≡ true) (whole_plus a b) more.1) in
    subst (λ z. unsigned_abs z < 2 ^ 120) (whole_num (a +ℤ b)) sum.1

-- where a sum doesn't fit, one of the three isn't small
pub int_refuses : (a b : ℤ) → 2 ^ 120 ≤ unsigned_abs (a +ℤ b) → are_small_wholes (whole a) (whole b) ≡ false
int_refuses a b h = by (are_small_wholes (whole a) (whole b)) refl
  where
    by : (t : Bool) → are_small_wholes (whole a) (whole b) ≡ t → t ≡ false
    by true e = let small_sum = int_small a b e in absurd (omega arith)
    by false e = refl

-- a sum of small whole numbers is answered
whole_fits : (a c : ℤ) → unsigned_abs a < 2 ^ 120 → unsigned_abs c < 2 ^ 120 → sum_fits a 1 c 1 1 ≡ true
whole_fits a c p q =
    let first : nat_lt (unsigned_abs (a *ℤ pos 1)) (2 ^ 127) ≡ true = lt-ltb _ _ (omega (arith, ints)) in
    let second : nat_lt (unsigned_abs (c *ℤ pos 1)) (2 ^ 127) ≡ true = lt-ltb _ _ (omega (arith, ints)) in
    let third : nat_lt (unsigned_abs ((a *ℤ pos 1) +ℤ (c *ℤ pos 1))) (2 ^ 127) ≡ true = lt-ltb _ _ (omega (arith, ints)) in
    rw (first, second, third) refl

gcd_ones : gcd 1 1 ≡ 1
gcd_ones = gcd-one 1

-- where a sum isn't answered, one of the three isn't small
pub fraction_refuses : (x y : Fraction) → plus_fits x y ≡ false → are_small_wholes x y ≡ false
unfolding plus_fits
fraction_refuses x y h = by (are_small_wholes x y) refl
  where
    by : (t : Bool) → are_small_wholes x y ≡ t → t ≡ false
    by true e =
        let parts = both_of (is_small_whole x) (is_small_whole y && is_small_whole (plus x y)) e in
        let more = both_of (is_small_whole y) (is_small_whole (plus x y)) parts.1 in
        let left = small x parts.0 in
        let right = small y more.0 in
        let fits : sum_fits x.num x.den y.num y.den (gcd x.den y.den) ≡ true = rw (left.0, right.0, gcd_ones) (whole_fits x.num y.num left.1 right.1) in
        absurd (true≢false (sym fits ∙ h))
    by false e = refl
