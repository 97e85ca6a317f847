-- The sizes of fractions, and where an operation on them may be refused.
use Rattle.std.specs.Prelude.{◌≡◌, ℕ, zero, suc, ◌+◌, ◌-◌, ◌*◌, ◌/◌, ◌^◌, ◌≤◌, ◌<◌, Bool, true, false, not, ◌&&◌, nat_lt, ℤ, pos, negsuc, neg_ℤ, ◌+ℤ◌, ◌*ℤ◌, int_div, unsigned_abs, min, if◌then◌else◌, Option, Some, None, is_some, is_none}
use Rattle.std.proofs.Common.{refl, ap, arith}
use Rattle.std.proofs.lemmas.Int.{ints, unsigned_abs-mul}
use Rattle.std.proofs.lemmas.Bool.Decides.{nat_tests}
use Rattle.std.proofs.Math.Nat.{mul-le-mul}
use native.Mathlib.Nat.{div-le_self}
use Rattle.np_frac.specs.Gcd.{gcd}
use Rattle.np_frac.specs.Laws.{den_of}
use Rattle.np_frac.specs.Field.{whole_num, whole_den}
use Rattle.np_frac.specs.Fractions.{Fraction, over, abs_quotient}
use Rattle.np_frac.specs.Checked.{is_zero, fits, sum_fits, product_fits, ratio, plus_fits, minus_fits, times_fits, reciprocal}

-- the count has grown, or is at the end of 64 bits, where it stays
abbrev pub Rose : ℕ → ℕ → Type 0
Rose before now = min (before + 1) (2 ^ 64 - 1) ≤ now

-- the larger of the numerator's size and the denominator
unfoldable pub size : Fraction → ℕ
size a = if nat_lt (unsigned_abs a.num) a.den then a.den else unsigned_abs a.num

-- whether the product of the sizes is above 2 ^ 125
unfoldable pub are_wide : Fraction → Fraction → Bool
are_wide a b = nat_lt (2 ^ 125) (size a * size b)

-- it is, or the second fraction is 0
abbrev pub are_wide_or_zero : Fraction → Fraction → Bool
are_wide_or_zero a b = if is_zero b then true else are_wide a b

-- the numerator is within the size
num_within : (a : Fraction) → unsigned_abs a.num ≤ size a
unfolding size
num_within a = grind (arith, nat_tests)

-- the denominator is
den_within : (a : Fraction) → a.den ≤ size a
unfolding size
den_within a = grind (arith, nat_tests)

-- a number within a bound fits
fits_from : (z : ℤ) (p : ℕ) → unsigned_abs z ≤ p → p < 2 ^ 127 → fits z ≡ true
fits_from z p h k = grind (arith, nat_tests)

-- so does a product of natural numbers
within_from : (n p : ℕ) → n ≤ p → p < 2 ^ 127 → nat_lt n (2 ^ 127) ≡ true
within_from n p h k = grind (arith, nat_tests)

-- a product with a quotient
scaled_within : (a : ℤ) (d g s t : ℕ) → unsigned_abs a ≤ s → d ≤ t → unsigned_abs (a *ℤ pos (d / g)) ≤ s * t
scaled_within a d g s t h k =
    let q : d / g ≤ t = omega (arith, div-le_self d g) in
    let m : unsigned_abs a * (d / g) ≤ s * t = mul-le-mul h q in
    let e : unsigned_abs (a *ℤ pos (d / g)) ≡ unsigned_abs a * (d / g) = unsigned_abs-mul a (pos (d / g)) in
    omega arith

-- the size of a sum
sum_within : (x y : ℤ) (p : ℕ) → unsigned_abs x ≤ p → unsigned_abs y ≤ p → unsigned_abs (x +ℤ y) ≤ p + p
sum_within x y p h k = omega (arith, ints)

-- four truths
four : (a b c d : Bool) → a ≡ true → b ≡ true → c ≡ true → d ≡ true → (a && (b && (c && d))) ≡ true
four a b c d e f g h = cc

-- two truths
two : (a b : Bool) → a ≡ true → b ≡ true → (a && b) ≡ true
two a b e f = cc

-- a sum of small parts fits
sum_fits_from : (a : ℤ) (b : ℕ) (c : ℤ) (d g s t : ℕ) → unsigned_abs a ≤ s → b ≤ s → unsigned_abs c ≤ t → d ≤ t → s * t ≤ 2 ^ 125 → sum_fits a b c d g ≡ true
sum_fits_from a b c d g s t ha hb hc hd l =
    let x : unsigned_abs (a *ℤ pos (d / g)) ≤ s * t = scaled_within a d g s t ha hd in
    let y : unsigned_abs (c *ℤ pos (b / g)) ≤ t * s = scaled_within c b g t s hc hb in
    let y' : unsigned_abs (c *ℤ pos (b / g)) ≤ s * t = omega arith in
    let q : d / g ≤ t = omega (arith, div-le_self d g) in
    let z : b * (d / g) ≤ s * t = mul-le-mul hb q in
    four _ _ _ _
    (fits_from (a *ℤ pos (d / g)) (s * t) x (omega arith))
    (fits_from (c *ℤ pos (b / g)) (s * t) y' (omega arith))
    (fits_from ((a *ℤ pos (d / g)) +ℤ (c *ℤ pos (b / g))) (s * t + s * t) (sum_within (a *ℤ pos (d / g)) (c *ℤ pos (b / g)) (s * t) x y') (omega arith))
    (within_from (b * (d / g)) (s * t) z (omega arith))

-- so does a product
product_fits_from : (a : ℤ) (b : ℕ) (c : ℤ) (d g h s t : ℕ) → unsigned_abs a ≤ s → b ≤ s → unsigned_abs c ≤ t → d ≤ t → s * t ≤ 2 ^ 125 → product_fits a b c d g h ≡ true
product_fits_from a b c d g h s t ha hb hc hd l =
    let e : unsigned_abs (int_div a (pos g) *ℤ int_div c (pos h)) ≡ unsigned_abs (int_div a (pos g)) * unsigned_abs (int_div c (pos h)) = unsigned_abs-mul (int_div a (pos g)) (int_div c (pos h)) in
    let x : unsigned_abs (int_div a (pos g)) ≤ s = omega (arith, abs_quotient a g, div-le_self (unsigned_abs a) g) in
    let y : unsigned_abs (int_div c (pos h)) ≤ t = omega (arith, abs_quotient c h, div-le_self (unsigned_abs c) h) in
    let m : unsigned_abs (int_div a (pos g)) * unsigned_abs (int_div c (pos h)) ≤ s * t = mul-le-mul x y in
    let u : b / h ≤ s = omega (arith, div-le_self b h) in
    let v : d / g ≤ t = omega (arith, div-le_self d g) in
    let n : b / h * (d / g) ≤ s * t = mul-le-mul u v in
    two _ _ (fits_from (int_div a (pos g) *ℤ int_div c (pos h)) (s * t) (omega arith) (omega arith)) (within_from (b / h * (d / g)) (s * t) n (omega arith))

-- sizes of a product that isn't wide
narrow : (a b : Fraction) → are_wide a b ≡ false → size a * size b ≤ 2 ^ 125
unfolding are_wide
narrow a b e = grind (arith, nat_tests)

-- where the answer is none, one truth refutes another
refuted : {X : Type 0} (o : Option X) (f w : Bool) → is_some o ≡ f → (w ≡ false → f ≡ true) → is_none o ≡ true → w ≡ true
refuted o f true e h n = refl
refuted (Some x) f false e h n = cc
refuted None f false e h n = let k : f ≡ true = h refl in cc

-- a sum that isn't answered has wide parts
pub plus_only : {X : Type 0} (a b : Fraction) (o : Option X) → is_some o ≡ plus_fits a b → is_none o ≡ true → are_wide a b ≡ true
unfolding plus_fits
plus_only a b o e n = refuted o (plus_fits a b) (are_wide a b) e (λ w. sum_fits_from a.num a.den b.num b.den (gcd a.den b.den) (size a) (size b) (num_within a) (den_within a) (num_within b) (den_within b) (narrow a b w)) n

-- so has a difference
pub minus_only : {X : Type 0} (a b : Fraction) (o : Option X) → is_some o ≡ minus_fits a b → is_none o ≡ true → are_wide a b ≡ true
unfolding minus_fits
minus_only a b o e n = refuted o (minus_fits a b) (are_wide a b) e (λ w. sum_fits_from a.num a.den (neg_ℤ b.num) b.den (gcd a.den b.den) (size a) (size b) (num_within a) (den_within a) (neg_within b.num (size b) (num_within b)) (den_within b) (narrow a b w)) n
  where
    neg_within : (z : ℤ) (s : ℕ) → unsigned_abs z ≤ s → unsigned_abs (neg_ℤ z) ≤ s
    neg_within z s h = omega (arith, ints)

-- and a product
pub times_only : {X : Type 0} (a b : Fraction) (o : Option X) → is_some o ≡ times_fits a b → is_none o ≡ true → are_wide a b ≡ true
unfolding times_fits
times_only a b o e n = refuted o (times_fits a b) (are_wide a b) e (λ w. product_fits_from a.num a.den b.num b.den (gcd (unsigned_abs a.num) b.den) (gcd (unsigned_abs b.num) a.den) (size a) (size b) (num_within a) (den_within a) (num_within b) (den_within b) (narrow a b w)) n

-- reducing makes nothing larger
over_num_within : (n : ℤ) (d s : ℕ) → unsigned_abs n ≤ s → unsigned_abs (over n d).num ≤ s
unfolding over
over_num_within n zero s h = omega (arith, ap unsigned_abs (whole_num (pos 0)))
over_num_within n (suc d) s h = omega (arith, abs_quotient n (gcd (unsigned_abs n) (suc d)), div-le_self (unsigned_abs n) (gcd (unsigned_abs n) (suc d)))

-- nor the denominator
over_den_within : (n : ℤ) (d s : ℕ) → 1 ≤ s → d ≤ s → (over n d).den ≤ s
unfolding over
over_den_within n zero s h k = omega (arith, whole_den (pos 0))
over_den_within n (suc d) s h k = omega (arith, div-le_self (suc d) (gcd (unsigned_abs n) (suc d)))

-- the two numbers of a quotient are within the larger of both
ratio_within : (n d : ℤ) (s : ℕ) → 1 ≤ s → unsigned_abs n ≤ s → unsigned_abs d ≤ s → (unsigned_abs (ratio n d).num ≤ s) × ((ratio n d).den ≤ s)
ratio_within n (pos d) s p h k = (over_num_within n d s h, over_den_within n d s p (omega (arith, ints)))
ratio_within n (negsuc d) s p h k = (over_num_within (neg_ℤ n) (suc d) s (omega (arith, ints)), over_den_within (neg_ℤ n) (suc d) s p (omega (arith, ints)))

-- and a quotient, unless the divisor is 0
pub quotient_only : {X : Type 0} (a b : Fraction) (o : Option X) → is_some o ≡ (not (is_zero b) && times_fits a (reciprocal b)) → is_none o ≡ true → are_wide_or_zero a b ≡ true
unfolding times_fits reciprocal
quotient_only a b o e n = refuted o (not (is_zero b) && times_fits a (reciprocal b)) (are_wide_or_zero a b) e (λ w. split (is_zero b) (are_wide a b) (times_fits a (reciprocal b)) w (λ v.
    let c : (unsigned_abs (reciprocal b).num ≤ size b) × ((reciprocal b).den ≤ size b) = ratio_within (pos b.den) b.num (size b) (some_size b) (den_within b) (num_within b) in
    product_fits_from a.num a.den (reciprocal b).num (reciprocal b).den (gcd (unsigned_abs a.num) (reciprocal b).den) (gcd (unsigned_abs (reciprocal b).num) a.den) (size a) (size b) (num_within a) (den_within a) c.0 c.1 (narrow a b v))) n
  where
    split : (z w f : Bool) → (if z then true else w) ≡ false → (w ≡ false → f ≡ true) → (not z && f) ≡ true
    split true w f h k = cc
    split false w f h k = k h

    some_size : (x : Fraction) → 1 ≤ size x
    some_size x = omega (arith, den_within x, den_of x)
