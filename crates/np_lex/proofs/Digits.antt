-- Short numbers, digit by digit.
use Rattle.std.proofs.Common.{◌≡◌, ℕ, zero, suc, ◌+◌, ◌-◌, ◌<◌, ◌≤◌, ◌^◌, true, List, [], ◌∷◌, length, get_or, take, drop, inl, inr, refl, sym, ap, subst, ◌∙◌, arith, decimal, length-take}
use Rattle.std.specs.Char.{digit_value, is_ascii_digit, to_ascii_lowercase}
use Rattle.std.specs.Int.{IsInRange}
use Rattle.std.specs.Str.Parse.{AllDigits, digits_value}
use Rattle.std.specs.List.{prefix_len}
use Rattle.std.proofs.lemmas.Bool.{cases_eq}
use Rattle.std.proofs.lemmas.List.Sums.{prefix_len-drop_yes}
use Rattle.np_lex.specs.FirstToken.{is_digit}
use Rattle.std.proofs.lemmas.Bool.Decides.{nat_tests}
use Rattle.std.proofs.lemmas.Str.{digit_value_digit}
use Rattle.std.proofs.lemmas.Str.Parse.{IsNumeralModel, digit_from_value, digits_value_short}
use Rattle.std.proofs.lemmas.Fmt.{decimal_is_IsNumeral_wide, decimal-digits_value, decimal_nonempty, decimal_digit, first_decimal, length-decimal-le}
use Rattle.np_lex.specs.Decimals.{HasNoLeadingZero}
use Rattle.np_lex.specs.Tokens.{lower}

own : IsNumeralModel (AllDigits 10) (digits_value 10)
own = record { to = λ ds h. h; from = λ ds h. h; same = λ ds h. refl }

-- what at most 18 digits write
pub value_below : (text : List ℕ) (i : ℕ) → i ≤ 18 → AllDigits 10 (take i text) → digits_value 10 (take i text) < 10 ^ 18
value_below text i few digits = digits_value_short own (take i text) 18 digits (omega (arith, length-take i text))

-- digits without a leading zero are the decimal of what they write
pub decimal_is : (bytes : List ℕ) (count number : ℕ) → count ≤ 18 → HasNoLeadingZero (take count bytes) → AllDigits 10 (take count bytes) → number ≡ digits_value 10 (take count bytes) → take count bytes ≡ decimal number
decimal_is bytes count number few no_zero digits value =
    sym (ap decimal value ∙ decimal-digits_value own (take count bytes) digits no_zero.0 no_zero.1 (let small = value_below bytes count few digits in omega arith))

-- a decimal has no leading zero
decimal_leads : (n : ℕ) → n < 10 ^ 18 → HasNoLeadingZero (decimal n)
decimal_leads n small = (decimal_nonempty n (omega arith), lead)
  where
    lead : get_or (decimal n) 0 0 ≡ 48 → length (decimal n) ≡ 1
    lead zero_first =
        elim (cases_eq n 0) [
          | inl none ↦ ap length (ap decimal none ∙ decimal_digit 0 (omega arith))
          | inr more ↦ absurd (omega (arith, first_decimal n (omega arith) (omega arith)))
        ]

pub no_decimal : (text : List ℕ) (n : ℕ) → (HasNoLeadingZero text → ⊥) → n < 10 ^ 18 → text ≡ decimal n → ⊥
no_decimal text n never small e = never (subst HasNoLeadingZero (sym e) (decimal_leads n small))

-- the decimal of a small number has no more than 18 digits
pub too_many : (bytes : List ℕ) (count : ℕ) → 18 < count → count ≤ length bytes → (n : ℕ) → n < 10 ^ 18 → take count bytes ≡ decimal n → ⊥
too_many bytes count many within n small e =
    let size : length (take count bytes) ≡ length (decimal n) = ap length e in
    omega (arith, size, length-take count bytes, length-decimal-le 18 n (omega arith) small (omega arith))

-- one more of the leading digits
pub one_more : (bs : List ℕ) (i total : ℕ) → i < length bs → true ≡ is_ascii_digit (get_or bs i 0) → i + prefix_len is_digit (drop i bs) ≡ total → (i + 1) + prefix_len is_digit (drop (i + 1) bs) ≡ total
one_more bs i total lt digit so_far = omega (arith, prefix_len-drop_yes is_digit bs i 0 lt (sym digit))

-- a digit's value
pub digit_is : (d v : ℕ) → IsInRange 48 57 d → v ≡ d - 48 → (v ≡ digit_value d) × (v < 10)
digit_is d v range is = let same = digit_value_digit d range in (omega arith, omega arith)

pub in_range : (d : ℕ) → true ≡ is_ascii_digit d → IsInRange 48 57 d
in_range d is = grind (arith, nat_tests)

-- digits are no capital letters
lower_digit : (b : ℕ) → IsInRange 48 57 b → to_ascii_lowercase b ≡ b
lower_digit b h = grind (arith, nat_tests)

pub lower_digits : (text : List ℕ) → AllDigits 10 text → lower text ≡ text
lower_digits [] h = refl
lower_digits (b ∷ bs) h =
    ap (λ (c : ℕ). c ∷ lower bs) (lower_digit b (digit_from_value b h.0)) ∙ ap (λ (cs : List ℕ). b ∷ cs) (lower_digits bs h.1)

pub decimal_lower : (n : ℕ) → n < 2 ^ 64 → lower (decimal n) ≡ decimal n
decimal_lower n within = lower_digits (decimal n) (decimal_is_IsNumeral_wide n (omega arith)).0.1

lower_digit_back : (b : ℕ) → IsInRange 48 57 (to_ascii_lowercase b) → to_ascii_lowercase b ≡ b
lower_digit_back b h = grind (arith, nat_tests)

pub lower_digits_back : (text : List ℕ) → AllDigits 10 (lower text) → lower text ≡ text
lower_digits_back [] h = refl
lower_digits_back (b ∷ bs) h =
    ap (λ (c : ℕ). c ∷ lower bs) (lower_digit_back b (digit_from_value (to_ascii_lowercase b) h.0)) ∙ ap (λ (cs : List ℕ). b ∷ cs) (lower_digits_back bs h.1)

pub decimal_digits : (n : ℕ) → n < 2 ^ 64 → AllDigits 10 (decimal n)
decimal_digits n within = (decimal_is_IsNumeral_wide n (omega arith)).0.1

-- a decimal has no capital letters
pub decimal_lower_back : (text : List ℕ) (n : ℕ) → n < 2 ^ 64 → lower text ≡ decimal n → text ≡ decimal n
decimal_lower_back text n within e = sym (lower_digits_back text (subst (AllDigits 10) (sym e) (decimal_digits n within))) ∙ e

digit_is_digit : (b : ℕ) → IsInRange 48 57 b → is_ascii_digit b ≡ true
digit_is_digit b h = grind (arith, nat_tests)

pub first_digit : (b : ℕ) (bs : List ℕ) → AllDigits 10 (b ∷ bs) → is_digit b ≡ true
first_digit b bs h = digit_is_digit b (digit_from_value b h.0)

-- digits that are taken are leading digits
pub digits_within : (bs : List ℕ) (m : ℕ) → m ≤ length bs → AllDigits 10 (take m bs) → m ≤ prefix_len is_digit bs
digits_within bs zero within h = omega arith
digits_within [] (suc m) within h = absurd (omega arith)
digits_within (b ∷ bs) (suc m) within h =
    let digit : is_digit b ≡ true = digit_is_digit b (digit_from_value b h.0) in
    let rest = digits_within bs m (omega arith) h.1 in
    rw digit (omega (arith, rest))
