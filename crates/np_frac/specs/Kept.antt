-- What a value of the code holds is a fraction's two numbers.
use native.Mathlib.Nat.{div-le_self}
use Rattle.std.proofs.Common.{refl, subst, ◌<◌, ◌^◌, ◌≡◌, ℕ, zero, suc, T, ℤ, pos, ◌<ℤ◌, ap, sym, ◌∙◌, arith}
use Rattle.std.specs.Prelude.{unsigned_abs, int_div, ◌/◌}
use Rattle.std.proofs.lemmas.Int.{ints}
use Rattle.np_frac.specs.Gcd.{gcd, gcd-quotient_pos}
use Rattle.np_frac.specs.Fractions.{Fraction, is_lowest, over, coprime, den_pos, abs_quotient, reduced_lowest, same_fraction}
use Rattle.np_frac.specs.Checked.{IsReduced}

-- the size of a positive number is that number
pub abs_pos : (d : ℤ) → pos 0 <ℤ d → pos (unsigned_abs d) ≡ d
abs_pos d h = omega (arith, ints)

-- lowest terms keep their numerator
num_kept : (n : ℤ) (d : ℕ) → T (is_lowest n d) → (over n d).num ≡ n
unfolding over
num_kept n zero h = absurd (omega (arith, den_pos n zero h))
num_kept n (suc d) h = omega (arith, ints, ap (λ g. int_div n (pos g)) (coprime n (suc d) h))

-- and their denominator
den_kept : (n : ℤ) (d : ℕ) → T (is_lowest n d) → (over n d).den ≡ d
unfolding over
den_kept n zero h = absurd (omega (arith, den_pos n zero h))
den_kept n (suc d) h = omega (arith, ap (λ g. suc d / g) (coprime n (suc d) h))

-- what is held is the numerator
pub reduced_num : (n d : ℤ) → IsReduced n d → (over n (unsigned_abs d)).num ≡ n
reduced_num n d h = num_kept n (unsigned_abs d) h.lowest

-- and the denominator
pub reduced_den : (n d : ℤ) → IsReduced n d → (over n (unsigned_abs d)).den ≡ unsigned_abs d
reduced_den n d h = den_kept n (unsigned_abs d) h.lowest

-- also as a signed number
pub reduced_signed : (n d : ℤ) → IsReduced n d → pos (over n (unsigned_abs d)).den ≡ d
reduced_signed n d h = ap pos (reduced_den n d h) ∙ abs_pos d h.positive

-- what a value of the code with this view holds
pub view_num : (n d : ℤ) (v : Fraction) → IsReduced n d → over n (unsigned_abs d) ≡ v → v.num ≡ n
view_num n d v h e = sym (ap (λ f. f.num) e) ∙ reduced_num n d h

-- and its denominator
pub view_den : (n d : ℤ) (v : Fraction) → IsReduced n d → over n (unsigned_abs d) ≡ v → v.den ≡ unsigned_abs d
view_den n d v h e = sym (ap (λ f. f.den) e) ∙ reduced_den n d h

-- what the code makes of a fraction
pub IsReduced-over : (n : ℤ) (d : ℕ) → unsigned_abs n < 2 ^ 127 → 0 < d → IsReduced (int_div n (pos (gcd (unsigned_abs n) d))) (pos (d / gcd (unsigned_abs n) d))
IsReduced-over n d h k = record {
  within = subst (λ (m : ℕ). m < 2 ^ 127) (sym (abs_quotient n (gcd (unsigned_abs n) d))) (omega (arith, div-le_self (unsigned_abs n) (gcd (unsigned_abs n) d)));
  positive = omega (arith, ints, gcd-quotient_pos (unsigned_abs n) d k);
  lowest = reduced_lowest n d k;
}

-- the numerator of a reduced fraction
num_of : (n : ℤ) (d : ℕ) → (over n (suc d)).num ≡ int_div n (pos (gcd (unsigned_abs n) (suc d)))
unfolding over
num_of n d = refl

-- its denominator
den_of : (n : ℤ) (d : ℕ) → (over n (suc d)).den ≡ suc d / gcd (unsigned_abs n) (suc d)
unfolding over
den_of n d = refl

-- reducing twice is reducing once
pub over-over : (n : ℤ) (d : ℕ) → 0 < d → over (int_div n (pos (gcd (unsigned_abs n) d))) (d / gcd (unsigned_abs n) d) ≡ over n d
over-over n zero k = absurd (omega arith)
over-over n (suc d) k =
    same_fraction _ _ (num_kept _ _ (reduced_lowest n (suc d) k) ∙ sym (num_of n d)) (den_kept _ _ (reduced_lowest n (suc d) k) ∙ sym (den_of n d))
