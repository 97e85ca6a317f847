-- Numbers that can be added for sure.
use Rattle.std.specs.Prelude.{◌==◌, ◌&&◌, ◌^◌, Bool, unsigned_abs, nat_lt}
use Rattle.np_frac.specs.Fractions.{Fraction, plus}

-- a whole number below 2 ^ 120 in size
abbrev pub is_small_whole : Fraction → Bool
is_small_whole x = (x.den == 1) && nat_lt (unsigned_abs x.num) (2 ^ 120)

-- so are both and their sum
abbrev pub are_small_wholes : Fraction → Fraction → Bool
are_small_wholes x y = is_small_whole x && (is_small_whole y && is_small_whole (plus x y))
