-- Quotients of fractions, and fractions made whole.
use Rattle.std.proofs.Common.{◌≡◌, ℕ, zero, suc, ◌*◌, ◌/◌, ◌<◌, true, false, ℤ, pos, negsuc, ◌*ℤ◌, sym, ◌∙◌, ap, arith, lit<}
use Rattle.std.specs.Prelude.{int_div, unsigned_abs, neg_ℤ}
use Rattle.std.specs.Int.{◌∣◌}
use Rattle.std.specs.Ordering.{int_eq}
use Rattle.std.proofs.lemmas.Int.{ints}
use native.Mathlib.Nat.{div-mul_cancel, mul-pos}
use Rattle.np_frac.specs.Fractions.{Fraction, over, whole, times}
use Rattle.np_frac.specs.Checked.{ratio, reciprocal, is_zero}
use Rattle.np_frac.specs.Ring.{var, nat, mul, neg, ring}
use Rattle.np_frac.specs.Laws.{den_of, over_equal, over_parts, whole-over, over_whole, times-over, times_quotient}
use Rattle.np_frac.specs.Field.{frac, int, product, amount_is, whole_num, times_assoc, times-one}
use Rattle.np_frac.specs.Laws.{unique}

-- a fraction that tests as 0 is 0
pub zero_is : (a : Fraction) → is_zero a ≡ true → a ≡ whole (pos 0)
zero_is a e = unique a (whole (pos 0)) (crossed a.num a.den (whole (pos 0)).num (whole (pos 0)).den e (whole_num (pos 0)))
  where
    crossed : (n : ℤ) (d : ℕ) (m : ℤ) (k : ℕ) → int_eq n (pos 0) ≡ true → m ≡ pos 0 → n *ℤ pos k ≡ m *ℤ pos d
    crossed n d m k e f = grind (arith, ints)

-- a number times its reciprocal is 1
reciprocal_of : (n : ℤ) (d : ℕ) → 0 < d → int_eq n (pos 0) ≡ false → times (over n d) (ratio (pos d) n) ≡ over (pos 1) 1
reciprocal_of (pos zero) d h e = cc
reciprocal_of (pos (suc k)) d h e =
    times-over (pos (suc k)) d (pos d) (suc k) h (omega arith)
    ∙ over_equal _ _ (pos 1) 1 (mul-pos h (omega arith)) (lit< tt)
    (ring (mul (mul (nat (suc k)) (nat d)) (nat 1)) (mul (nat 1) (nat (d * suc k))) (omega arith))
reciprocal_of (negsuc k) d h e =
    times-over (negsuc k) d (neg_ℤ (pos d)) (suc k) h (omega arith)
    ∙ over_equal _ _ (pos 1) 1 (mul-pos h (omega arith)) (lit< tt)
    (ring (mul (mul (neg (nat (suc k))) (neg (nat d))) (nat 1)) (mul (nat 1) (nat (d * suc k))) (omega arith))

pub times_reciprocal : (a : Fraction) → is_zero a ≡ false → times a (reciprocal a) ≡ whole (pos 1)
unfolding reciprocal
times_reciprocal a e = ap (λ z. times z (ratio (pos a.den) a.num)) (sym (over_parts a)) ∙ reciprocal_of a.num a.den (den_of a) e ∙ over_whole (pos 1)

-- the quotient of a product by a factor that isn't 0 is the other factor
pub one_factor : (t a b : Fraction) → is_zero a ≡ false → b ≡ times t a → times b (reciprocal a) ≡ t
one_factor t a b e h =
    ap (λ z. times z (reciprocal a)) h ∙ times_assoc t a (reciprocal a) ∙ ap (times t) (times_reciprocal a e) ∙ times-one t

-- a multiple of its denominator makes a fraction whole
pub made_whole : (f : Fraction) (m : ℕ) → f.den ∣ m → whole (f.num *ℤ pos (m / f.den)) ≡ times (whole (pos m)) f
made_whole f m h =
    whole-over (f.num *ℤ pos (m / f.den))
    ∙ over_equal (f.num *ℤ pos (m / f.den)) 1 (pos m *ℤ f.num) (1 * f.den) (lit< tt) (mul-pos (lit< tt) (den_of f))
    (ring (mul (mul (var f.num) (nat (m / f.den))) (nat (1 * f.den))) (mul (var f.num) (nat (m / f.den * f.den))) (omega arith)
    ∙ ap (λ k. f.num *ℤ pos k) (div-mul_cancel f.den h)
    ∙ ring (mul (var f.num) (nat m)) (mul (mul (nat m) (var f.num)) (nat 1)) (omega arith))
    ∙ sym (amount_is (product (int (pos m)) (frac f)))

-- a common divisor is taken out exactly
pub divided_whole : (n : ℤ) (g : ℕ) → 0 < g → g ∣ unsigned_abs n → whole (int_div n (pos g)) ≡ times (over (pos 1) g) (whole n)
divided_whole n g hg h =
    whole-over (int_div n (pos g))
    ∙ over_equal (int_div n (pos g)) 1 (pos 1 *ℤ n) (g * 1) (lit< tt) (mul-pos hg (lit< tt))
    (ring (mul (var (int_div n (pos g))) (nat (g * 1))) (mul (var (int_div n (pos g))) (nat g)) (omega arith)
    ∙ times_quotient n g h
    ∙ ring (var n) (mul (mul (nat 1) (var n)) (nat 1)) (omega arith))
    ∙ sym (times-over (pos 1) g n 1 hg (lit< tt))
    ∙ ap (times (over (pos 1) g)) (over_whole n)
