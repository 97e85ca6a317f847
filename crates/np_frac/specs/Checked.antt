-- What the code answers: the exact fraction, where the named numbers are at most 2 ^ 127 - 1 in size.
use Rattle.std.specs.Prelude.{ℕ, suc, ◌*◌, ◌/◌, ◌^◌, ◌<◌, Bool, ◌&&◌, not, T, ℤ, pos, negsuc, neg_ℤ, ◌+ℤ◌, ◌*ℤ◌, ◌<ℤ◌, unsigned_abs, int_div, nat_lt, Option, Some, None, if◌then◌else◌}
use Rattle.std.specs.Ordering.{int_eq}
use Rattle.np_frac.specs.Gcd.{gcd}
use Rattle.np_frac.specs.Fractions.{Fraction, is_lowest, over, times}

-- at most 2 ^ 127 - 1 in size
abbrev pub fits : ℤ → Bool
fits z = nat_lt (unsigned_abs z) (2 ^ 127)

-- the number, where it fits
abbrev pub fitting : ℤ → Option ℤ
fitting z = if fits z then Some z else None

-- what a value of the code holds
pub record IsReduced (num den : ℤ) : Type 0 where
  pub within : unsigned_abs num < 2 ^ 127
  pub positive : pos 0 <ℤ den
  pub lowest : T (is_lowest num (unsigned_abs den))

-- a whole number over another that isn't 0
abbrev pub ratio : ℤ → ℤ → Fraction
ratio n (pos d) = over n d
ratio n (negsuc d) = over (neg_ℤ n) (suc d)

-- n/d, where both numbers fit and d isn't 0
abbrev pub checked_quotient : ℤ → ℤ → Option Fraction
checked_quotient n d = if fits n && (fits d && not (int_eq d (pos 0))) then Some (ratio n d) else None

-- a/b + c/d, where a * (d / g), c * (b / g), their sum and b * (d / g) fit, g being the greatest common divisor of b and d
abbrev pub sum_fits : ℤ → ℕ → ℤ → ℕ → ℕ → Bool
sum_fits a b c d g =
    fits (a *ℤ pos (d / g)) && (fits (c *ℤ pos (b / g)) && (fits ((a *ℤ pos (d / g)) +ℤ (c *ℤ pos (b / g))) && nat_lt (b * (d / g)) (2 ^ 127)))

-- the exact sum of a/b and c/d, where those four numbers fit
abbrev pub checked_sum : ℤ → ℕ → ℤ → ℕ → Option Fraction
checked_sum a b c d = if sum_fits a b c d (gcd b d) then Some (over ((a *ℤ pos d) +ℤ (c *ℤ pos b)) (b * d)) else None

-- whether the sum of two fractions is answered
unfoldable pub plus_fits : Fraction → Fraction → Bool
plus_fits x y = sum_fits x.num x.den y.num y.den (gcd x.den y.den)

-- whether their difference is, which is the sum with the second negated
unfoldable pub minus_fits : Fraction → Fraction → Bool
minus_fits x y = sum_fits x.num x.den (neg_ℤ y.num) y.den (gcd x.den y.den)

-- a/b * c/d, where (a / g) * (c / h) and (b / h) * (d / g) fit, g being the greatest common divisor of a and d, and h of c and b
abbrev pub product_fits : ℤ → ℕ → ℤ → ℕ → ℕ → ℕ → Bool
product_fits a b c d g h = fits (int_div a (pos g) *ℤ int_div c (pos h)) && nat_lt (b / h * (d / g)) (2 ^ 127)

-- the exact product of a/b and c/d, where those two numbers fit
abbrev pub checked_product : ℤ → ℕ → ℤ → ℕ → Option Fraction
checked_product a b c d =
    if product_fits a b c d (gcd (unsigned_abs a) d) (gcd (unsigned_abs c) b) then Some (over (a *ℤ c) (b * d)) else None

-- whether the product of two fractions is answered
unfoldable pub times_fits : Fraction → Fraction → Bool
times_fits x y = product_fits x.num x.den y.num y.den (gcd (unsigned_abs x.num) y.den) (gcd (unsigned_abs y.num) x.den)

-- 1 over a fraction that isn't 0
unfoldable pub reciprocal : Fraction → Fraction
reciprocal y = ratio (pos y.den) y.num

-- whether it is 0
abbrev pub is_zero : Fraction → Bool
is_zero y = int_eq y.num (pos 0)

-- the exact quotient; none where the divisor is 0
abbrev pub quotient : Fraction → Fraction → Option Fraction
quotient x y = if is_zero y then None else Some (times x (reciprocal y))
