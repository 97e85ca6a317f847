-- The number that a literal stands for.
use Rattle.std.specs.Prelude.{ℕ, ◌+◌, ◌-◌, ◌*◌, ◌^◌, Bool, true, false, if◌then◌else◌, ℤ, pos, neg_ℤ, List, [], ◌∷◌, ◌++◌, length, Option, None, Some}
use Rattle.np_frac.specs.Fractions.{Fraction, over}
use Rattle.np_lex.specs.FirstToken.{is_digit}
use Rattle.np_words.specs.declared.word.Decimal.{Decimal}

-- what a digit counts; another byte, which no number has, counts nothing
abbrev pub digit_of : ℕ → ℕ
digit_of b = if is_digit b then b - 48 else 0

-- the whole number that the digits write after those of n
abbrev pub written_after : ℕ → List ℕ → ℕ
written_after n [] = n
written_after n (b ∷ bs) = written_after (n * 10 + digit_of b) bs

-- the digits after the point
abbrev pub part_digits : Option (List ℕ) → List ℕ
part_digits None = []
part_digits (Some digits) = digits

-- all digits
abbrev pub digits_of : Decimal → List ℕ
digits_of d = d.whole ++ part_digits d.part

-- a whole number with its sign
abbrev pub signed : Bool → ℕ → ℤ
signed true n = neg_ℤ (pos n)
signed false n = pos n

-- all digits as a whole number with the sign, over 10 to the number of digits after the point
unfoldable pub fraction_of : Decimal → Fraction
fraction_of d = over (signed d.negative (written_after 0 (digits_of d))) (10 ^ length (part_digits d.part))
