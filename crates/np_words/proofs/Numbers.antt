-- Numbers from their digits, and how many digits their texts have.
use Rattle.std.proofs.Common.{◌≡◌, ℕ, ◌+◌, ◌-◌, ◌*◌, ◌^◌, ◌<◌, ◌≤◌, Bool, true, false, cond, ◌&&◌, not, pos, List, [], ◌∷◌, ◌++◌, length, get_or, drop, suc, Option, None, Some, refl, sym, ap, subst, ◌∙◌, arith, length-append}
use Rattle.std.specs.Prelude.{nat_lt, SomeIff}
use Rattle.std.specs.Ordering.{int_eq}
use Rattle.std.specs.List.{count_by, list_all}
use Rattle.std.proofs.Math.Nat.{pow-suc, one-le-pow, mul-le-mul}
use Rattle.std.proofs.Math.Seq.{drop-cons}
use Rattle.std.proofs.lemmas.List.{drop_all}
use Rattle.std.proofs.lemmas.Nat.{pow-add}
use Rattle.std.proofs.lemmas.Bool.Decides.{nat_tests}
use Rattle.std.proofs.lemmas.Int.{ints}
use Rattle.std.proofs.lemmas.List.Sums.{sum_by-cons, sum_by-append}
use Rattle.np_frac.specs.Checked.{fits, checked_quotient}
use Rattle.np_frac.specs.Fractions.{Fraction, over}
use Rattle.np_lex.specs.FirstToken.{is_digit}
use Rattle.np_lex.specs.LongestToken.{is_digits}
use Rattle.np_lex.specs.Tokens.{numeral}
use Rattle.np_read.proofs.Same.{both_true}
use Rattle.np_words.specs.declared.read.wide.TheConstants.{MOST_DIGITS}
use Rattle.np_words.specs.declared.word.Decimal.{Decimal}
use Rattle.np_words.specs.Numbers.{digit_of, written_after, part_digits, digits_of, signed, fraction_of}
use Rattle.np_words.specs.Text.{sign_text, part_text, decimal_text}
use Rattle.np_words.specs.Wide.{IsShortLexeme}
use Rattle.np_words.specs.Written.{is_part, IsDecimal}
use Rattle.np_words.proofs.ReadingNumbers.{decimal_digits}

digit_small : (b : ℕ) → digit_of b < 10
digit_small b = grind (arith, nat_tests)

below_more : (n digit value power more : ℕ) → digit < 10 → more ≡ power * 10 → value < (n * 10 + digit + 1) * power → value < (n + 1) * more
below_more n digit value power more small is below =
    let few : digit * power ≤ 9 * power = mul-le-mul (omega arith) (omega arith) in
    subst (λ (p : ℕ). value < (n + 1) * p) (sym is) (omega (arith, below, few))

room_less : (n digit most power more : ℕ) → digit < 10 → more ≡ power * 10 → (n + 1) * more ≤ most → (n * 10 + digit + 1) * power ≤ most
room_less n digit most power more small is room =
    let few : digit * power ≤ 9 * power = mul-le-mul (omega arith) (omega arith) in
    let wide : (n + 1) * (power * 10) ≤ most = subst (λ (p : ℕ). (n + 1) * p ≤ most) is room in
    omega (arith, wide, few)

-- so many digits write no more than this
pub written_below : (n : ℕ) (digits : List ℕ) → written_after n digits < (n + 1) * 10 ^ length digits
written_below n [] = omega arith
written_below n (b ∷ bs) =
    below_more n (digit_of b) (written_after (n * 10 + digit_of b) bs) (10 ^ length bs) (10 ^ suc (length bs)) (digit_small b) (pow-suc 10 (length bs)) (written_below (n * 10 + digit_of b) bs)

-- digits after others
pub written_append : (n : ℕ) (xs ys : List ℕ) → written_after n (xs ++ ys) ≡ written_after (written_after n xs) ys
written_append n [] ys = refl
written_append n (x ∷ xs) ys = written_append (n * 10 + digit_of x) xs ys

pub power_le : (i j : ℕ) → i ≤ j → 10 ^ i ≤ 10 ^ j
power_le i j le =
    let some : 1 ≤ 10 ^ (j - i) = one-le-pow (j - i) 10 (omega arith) in
    let times : 10 ^ i * 1 ≤ 10 ^ i * 10 ^ (j - i) = mul-le-mul (omega arith) some in
    let split : j ≡ i + (j - i) = omega arith in
    omega (arith, times, ap (λ (n : ℕ). 10 ^ n) split, pow-add 10 i (j - i))

-- ---- a number's value

-- one digit more has room
room_for_one : (n digit : ℕ) (rest : List ℕ) (b : ℕ) → digit < 10 → (n + 1) * 10 ^ length (b ∷ rest) ≤ 10 ^ MOST_DIGITS → (n * 10 + digit + 1) * 10 ^ length rest ≤ 10 ^ MOST_DIGITS
room_for_one n digit rest b small room = room_less n digit (10 ^ MOST_DIGITS) (10 ^ length rest) (10 ^ suc (length rest)) small (pow-suc 10 (length rest)) room

-- so it fits
fits_one : (n digit : ℕ) (rest : List ℕ) → digit < 10 → (n * 10 + digit + 1) * 10 ^ length rest ≤ 10 ^ MOST_DIGITS → n * 10 + digit < 2 ^ 127
fits_one n digit rest small room =
    let some : 1 ≤ 10 ^ length rest = one-le-pow (length rest) 10 (omega arith) in
    let times : (n * 10 + digit + 1) * 1 ≤ (n * 10 + digit + 1) * 10 ^ length rest = mul-le-mul (omega arith) some in
    omega (arith, times, room)

next_digit : (digits : List ℕ) (i : ℕ) → i < length digits → drop i digits ≡ get_or digits i 0 ∷ drop (i + 1) digits
next_digit digits i within =
    let plain : suc i ≡ i + 1 = omega arith in
    drop-cons digits i 0 within ∙ ap (λ (k : ℕ). get_or digits i 0 ∷ drop k digits) plain

pub room_next : (n digit : ℕ) (digits : List ℕ) (i : ℕ) → i < length digits → digit < 10 → (n + 1) * 10 ^ length (drop i digits) ≤ 10 ^ MOST_DIGITS → (n * 10 + digit + 1) * 10 ^ length (drop (i + 1) digits) ≤ 10 ^ MOST_DIGITS
room_next n digit digits i within small room =
    room_for_one n digit (drop (i + 1) digits) (get_or digits i 0) small (subst (λ (ds : List ℕ). (n + 1) * 10 ^ length ds ≤ 10 ^ MOST_DIGITS) (next_digit digits i within) room)

pub fits_next : (n digit : ℕ) (digits : List ℕ) (i : ℕ) → i < length digits → digit < 10 → (n + 1) * 10 ^ length (drop i digits) ≤ 10 ^ MOST_DIGITS → n * 10 + digit < 2 ^ 127
fits_next n digit digits i within small room = fits_one n digit (drop (i + 1) digits) small (room_next n digit digits i within small room)

pub written_next : (n digit before : ℕ) (digits : List ℕ) (i : ℕ) → i < length digits → digit ≡ digit_of (get_or digits i 0) → written_after n (drop i digits) ≡ written_after before digits → written_after (n * 10 + digit) (drop (i + 1) digits) ≡ written_after before digits
written_next n digit before digits i within is so_far =
    ap (λ (d : ℕ). written_after (n * 10 + d) (drop (i + 1) digits)) is ∙ sym (ap (written_after n) (next_digit digits i within)) ∙ so_far

pub written_all : (n before : ℕ) (digits : List ℕ) (i : ℕ) → length digits ≤ i → written_after n (drop i digits) ≡ written_after before digits → n ≡ written_after before digits
written_all n before digits i past so_far = ap (written_after n) (sym (drop_all i digits past)) ∙ so_far

-- the digits after the point have room after those before it
pub room_for_part : (n : ℕ) (whole part : List ℕ) → n < 1 * 10 ^ length whole → length whole + length part ≤ MOST_DIGITS → (n + 1) * 10 ^ length part ≤ 10 ^ MOST_DIGITS
room_for_part n whole part below few =
    let times : (n + 1) * 10 ^ length part ≤ 10 ^ length whole * 10 ^ length part = mul-le-mul (omega arith) (omega arith) in
    omega (arith, times, pow-add 10 (length whole) (length part), power_le (length whole + length part) MOST_DIGITS few)

fits_signed : (negative : Bool) (n : ℕ) → n < 2 ^ 127 → fits (signed negative n) ≡ true
fits_signed true n h = grind (arith, nat_tests, ints)
fits_signed false n h = grind (arith, nat_tests)

fits_scale : (n : ℕ) → n < 2 ^ 127 → 0 < n → (fits (pos n) && not (int_eq (pos n) (pos 0))) ≡ true
fits_scale n h k = grind (arith, nat_tests, ints)

-- the quotient is the number that the literal stands for
pub value_is : (d : Decimal) (n scale : ℕ) (o : Option Fraction) → o ≡ checked_quotient (signed d.negative n) (pos scale) → n ≡ written_after 0 (digits_of d) → n < 10 ^ MOST_DIGITS → scale ≡ 10 ^ length (part_digits d.part) → scale < 2 ^ 127
    → length (digits_of d) ≤ MOST_DIGITS → SomeIff o (length (digits_of d) ≤ MOST_DIGITS) (fraction_of d)
unfolding fraction_of
value_is d n scale o is number small scale_is within few =
    let some : 1 ≤ scale = omega (arith, one-le-pow (length (part_digits d.part)) 10 (omega arith)) in
    let a : fits (signed d.negative n) ≡ true = fits_signed d.negative n (omega arith) in
    let b : (fits (pos scale) && not (int_eq (pos scale) (pos 0))) ≡ true = fits_scale scale within (omega arith) in
    let answer : Option Fraction = Some (over (signed d.negative n) scale) in
    let found : o ≡ answer =
    is ∙ ap (λ (x : Bool). cond (x && (fits (pos scale) && not (int_eq (pos scale) (pos 0)))) answer None) a ∙ ap (λ (x : Bool). cond x answer None) b in
    subst (λ (x : Option Fraction). SomeIff x (length (digits_of d) ≤ MOST_DIGITS) (fraction_of d)) (sym found) (few, ap (λ (m : ℕ). over (signed d.negative m) scale) number ∙ ap (over (signed d.negative (written_after 0 (digits_of d)))) scale_is)

-- ---- how many digits a text has

count_all : (digits : List ℕ) → list_all is_digit digits ≡ true → count_by is_digit digits ≡ length digits
count_all [] e = refl
count_all (b ∷ bs) e =
    let h = both_true (is_digit b) (list_all is_digit bs) e in
    sum_by-cons (λ c. cond (is_digit c) 1 0) b bs ∙ ap (λ (digit : Bool). cond digit 1 0 + count_by is_digit bs) h.0 ∙ omega (arith, count_all bs h.1)

count_digits : (digits : List ℕ) → is_digits digits ≡ true → count_by is_digit digits ≡ length digits
count_digits [] e = refl
count_digits (b ∷ bs) e = count_all (b ∷ bs) e

count_sign : (negative : Bool) → count_by is_digit (sign_text negative) ≡ 0
count_sign true = refl
count_sign false = refl

count_part : (part : Option (List ℕ)) → is_part part ≡ true → count_by is_digit (part_text part) ≡ length (part_digits part)
count_part None e = refl
count_part (Some digits) e = sum_by-cons (λ c. cond (is_digit c) 1 0) 46 digits ∙ omega (arith, count_digits digits e)

-- its text has all its digits and no others
pub digits_counted : (d : Decimal) → IsDecimal d → count_by is_digit (decimal_text d) ≡ length (digits_of d)
digits_counted d h =
    let digits = decimal_digits d h in
    let count : ℕ → ℕ = λ b. cond (is_digit b) 1 0 in
    omega (arith, sum_by-append count (sign_text d.negative) (d.whole ++ part_text d.part), sum_by-append count d.whole (part_text d.part), count_sign d.negative, count_digits d.whole digits.0, count_part d.part digits.1, length-append d.whole (part_digits d.part))

within : (n : ℕ) → nat_lt MOST_DIGITS n ≡ false → n ≤ MOST_DIGITS
within n e = grind (arith, nat_tests)

-- a number that isn't too long has its value
pub short_digits : (d : Decimal) → IsDecimal d → IsShortLexeme (numeral (decimal_text d)) → length (digits_of d) ≤ MOST_DIGITS
short_digits d h short = within (length (digits_of d)) (ap (nat_lt MOST_DIGITS) (sym (digits_counted d h)) ∙ short)
