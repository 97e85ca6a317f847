-- Fractions above 0 and other than 0.
use Rattle.std.proofs.Common.{◌≡◌, ◌≢◌, ℕ, ◌*◌, ◌<◌, true, false, ℤ, pos, negsuc, ◌*ℤ◌, ◌<ℤ◌, sym, ◌∙◌, ap, subst, subst₂, arith}
use Rattle.std.specs.Ordering.{int_eq}
use Rattle.std.proofs.lemmas.Int.{ints}
use Rattle.std.proofs.lemmas.Bool.{both_ways, false_from_ne_true}
use native.Mathlib.Nat.{mul-pos}
use Rattle.np_frac.specs.Fractions.{Fraction, over, whole, times}
use Rattle.np_frac.specs.Checked.{ratio, reciprocal, is_zero}
use Rattle.np_frac.specs.Ring.{nat, mul, ring}
use Rattle.np_frac.specs.Laws.{den_of, over_same, times_parts}
use Rattle.np_frac.specs.Field.{whole_num, times_comm, zero_times}
use Rattle.np_frac.specs.Order.{lt_scaled, lt_unscaled}
use Rattle.np_frac.specs.Quotients.{zero_is, one_factor}

-- ---- above 0

pub product_above : (a b : ℤ) → pos 0 <ℤ a → pos 0 <ℤ b → pos 0 <ℤ (a *ℤ b)
product_above (pos m) (pos n) h k =
    let first : 0 < m = omega (arith, ints) in
    let second : 0 < n = omega (arith, ints) in
    let both : 0 < m * n = mul-pos first second in
    omega (arith, ints)
product_above (pos m) (negsuc n) h k = absurd (omega (arith, ints))
product_above (negsuc m) b h k = absurd (omega (arith, ints))

pub over_above : (n : ℤ) (d : ℕ) → 0 < d → pos 0 <ℤ n → pos 0 <ℤ (over n d).num
over_above n d some h =
    lt_unscaled (pos 0) (over n d).num d
    (subst₂ (λ (x y : ℤ). x <ℤ y) (ring (mul (nat 0) (nat (over n d).den)) (mul (nat 0) (nat d)) (omega arith)) (sym (over_same n d some))
    (lt_scaled (pos 0) n (over n d).den (den_of (over n d)) h))

pub times_above : (a b : Fraction) → pos 0 <ℤ a.num → pos 0 <ℤ b.num → pos 0 <ℤ (times a b).num
times_above a b h k =
    subst (λ (x : Fraction). pos 0 <ℤ x.num) (sym (times_parts a b)) (over_above (a.num *ℤ b.num) (a.den * b.den) (mul-pos (den_of a) (den_of b)) (product_above a.num b.num h k))

pub whole_above : (n : ℕ) → 0 < n → pos 0 <ℤ (whole (pos n)).num
whole_above n h = subst (λ (z : ℤ). pos 0 <ℤ z) (sym (whole_num (pos n))) (omega (arith, ints))

ratio_above : (n : ℕ) (d : ℤ) → 0 < n → pos 0 <ℤ d → pos 0 <ℤ (ratio (pos n) d).num
ratio_above n (pos d) h k = over_above (pos n) d (omega (arith, ints)) (omega (arith, ints))
ratio_above n (negsuc d) h k = absurd (omega (arith, ints))

pub reciprocal_above : (a : Fraction) → pos 0 <ℤ a.num → pos 0 <ℤ (reciprocal a).num
unfolding reciprocal
reciprocal_above a h = ratio_above a.den a.num (den_of a) h

-- ---- other than 0

pub whole_zero : is_zero (whole (pos 0)) ≡ true
whole_zero = ap (λ z. int_eq z (pos 0)) (whole_num (pos 0))

pub some_from : (a : Fraction) → a ≢ whole (pos 0) → is_zero a ≡ false
some_from a other = false_from_ne_true (is_zero a) (λ e. other (zero_is a e))

pub other_from : (a : Fraction) → is_zero a ≡ false → a ≢ whole (pos 0)
other_from a some e = both_ways (is_zero a) some (ap is_zero e ∙ whole_zero)

-- what is above 0 isn't 0
pub above_some : (a : Fraction) → pos 0 <ℤ a.num → is_zero a ≡ false
above_some a h = by a.num h
  where
    by : (n : ℤ) → pos 0 <ℤ n → int_eq n (pos 0) ≡ false
    by n h = grind (arith, ints)

pub times_some : (a b : Fraction) → is_zero a ≡ false → is_zero b ≡ false → is_zero (times a b) ≡ false
times_some a b p q = false_from_ne_true (is_zero (times a b)) (λ e. both_ways (is_zero b) q (ap is_zero (nothing (zero_is (times a b) e)) ∙ whole_zero))
  where
    nothing : times a b ≡ whole (pos 0) → b ≡ whole (pos 0)
    nothing e = sym (one_factor b a (times a b) p (times_comm a b)) ∙ ap (λ x. times x (reciprocal a)) e ∙ zero_times (reciprocal a)

-- nor is its numerator
pub some_num : (a : Fraction) → is_zero a ≡ false → a.num ≢ pos 0
some_num a some e = both_ways (is_zero a) some (ap (λ z. int_eq z (pos 0)) e)
