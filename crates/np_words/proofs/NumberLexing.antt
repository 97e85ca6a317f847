-- What a lexer takes is read as a number.
use Rattle.std.proofs.Common.{◌≡◌, inl, inr, ℕ, Bool, true, false, ◌&&◌, cond, List, [], ◌∷◌, ◌++◌, Option, None, Some, Ok, Err, refl, sym, ap, subst, ◌∙◌, arith}
use Rattle.std.specs.Char.{to_ascii_lowercase}
use Rattle.std.specs.List.{list_all}
use Rattle.std.proofs.lemmas.Bool.Decides.{nat_tests}
use Rattle.std.proofs.lemmas.List.{map-append, append-nil}
use Rattle.np_lex.specs.declared.reading.Lexer.{Lexer}
use Rattle.np_lex.specs.declared.token.Kind.TheVariants.{Number}
use Rattle.np_lex.specs.declared.token.Place.{Place}
use Rattle.np_lex.specs.FirstToken.{is_digit}
use Rattle.np_lex.specs.LongestToken.{is_digits, IsUnsigned, IsToken}
use Rattle.np_lex.specs.Lexers.{items_left, Leaves}
use Rattle.np_lex.specs.Tokens.{Lexeme, lower}
use Rattle.np_read.specs.Same.{same_kind}
use Rattle.np_read.specs.Takes.{TakesAt, lexeme}
use Rattle.np_read.proofs.Same.{same_kind_true, both_true}
use Rattle.np_read.proofs.PlacedLexing.{token_taken, token_missing}
use Rattle.np_words.specs.declared.word.Decimal.{Decimal}
use Rattle.np_words.specs.Bare.{nowhere}
use Rattle.np_words.specs.Written.{is_part, is_decimal, IsDecimal}
use Rattle.np_words.specs.Text.{sign_text, part_text, decimal_text}
use Rattle.np_words.specs.ReadingForm.{parts_in, decimal_of, number_of, number}
use Rattle.np_words.proofs.ReadingNumbers.{decimal_digits, parts_in_back, decimal_back}

-- ---- small letters

digit_lower : (b : ℕ) → is_digit b ≡ true → to_ascii_lowercase b ≡ b
digit_lower b e = grind (arith, nat_tests)

all_lower : (digits : List ℕ) → list_all is_digit digits ≡ true → lower digits ≡ digits
all_lower [] e = refl
all_lower (b ∷ bs) e =
    let h = both_true (is_digit b) (list_all is_digit bs) e in
    ap (λ (c : ℕ). c ∷ lower bs) (digit_lower b h.0) ∙ ap (λ (cs : List ℕ). b ∷ cs) (all_lower bs h.1)

digits_lower : (digits : List ℕ) → is_digits digits ≡ true → lower digits ≡ digits
digits_lower [] e = refl
digits_lower (b ∷ bs) e = all_lower (b ∷ bs) e

part_lower : (part : Option (List ℕ)) → is_part part ≡ true → lower (part_text part) ≡ part_text part
part_lower None e = refl
part_lower (Some digits) e = ap (λ (cs : List ℕ). 46 ∷ cs) (digits_lower digits e)

sign_lower : (negative : Bool) → lower (sign_text negative) ≡ sign_text negative
sign_lower true = refl
sign_lower false = refl

decimal_lower : (d : Decimal) → IsDecimal d → lower (decimal_text d) ≡ decimal_text d
decimal_lower d h =
    let digits = decimal_digits d h in
    map-append to_ascii_lowercase (sign_text d.negative) (d.whole ++ part_text d.part)
    ∙ ap (λ (sign : List ℕ). sign ++ lower (d.whole ++ part_text d.part)) (sign_lower d.negative)
    ∙ ap (λ (more : List ℕ). sign_text d.negative ++ more)
    (map-append to_ascii_lowercase d.whole (part_text d.part) ∙ ap (λ (whole : List ℕ). whole ++ lower (part_text d.part)) (digits_lower d.whole digits.0)
    ∙ ap (λ (part : List ℕ). d.whole ++ part) (part_lower d.part digits.1))

-- ---- each number is the text of a decimal

record Written (text : List ℕ) : Type 0 where
  decimal : Decimal
  good : IsDecimal decimal
  text_is : text ≡ decimal_text decimal

whole_and : (negative : Bool) (whole : List ℕ) (part : Option (List ℕ)) → is_digits whole ≡ true → is_part part ≡ true → Written (sign_text negative ++ (whole ++ part_text part))
unfolding is_decimal
whole_and negative whole part e d = record {
  decimal = record { negative = negative; whole = whole; part = part; place = nowhere };
  good = ap (λ (good : Bool). good && is_part part) e ∙ d;
  text_is = refl;
}

unsigned_written : (negative : Bool) (text : List ℕ) → IsUnsigned text → Written (sign_text negative ++ text)
unsigned_written negative text (inl digits) = subst (λ (t : List ℕ). Written (sign_text negative ++ t)) (append-nil text) (whole_and negative text None digits refl)
unsigned_written negative text (inr decimal) =
    subst (λ (t : List ℕ). Written (sign_text negative ++ t)) (sym decimal.text_is) (whole_and negative decimal.whole (Some decimal.fraction) decimal.whole_digits decimal.fraction_digits)

number_written : (text : List ℕ) → IsToken Number text → Written text
number_written text (inl unsigned) = unsigned_written false text unsigned
number_written text (inr follows) = subst Written (sym follows.text_is) (unsigned_written true follows.rest follows.holds)

-- ---- reading

number_says : (bytes : List ℕ) (place : Place) → IsToken Number bytes → number_of place (lexeme Number (lower bytes)) ≡ Some (parts_in place bytes)
number_says bytes place token =
    let written = number_written bytes token in
    let d = written.decimal in
    subst (λ (text : List ℕ). number_of place (lexeme Number (lower text)) ≡ Some (parts_in place text)) (sym written.text_is)
    (ap (λ (text : List ℕ). number_of place (lexeme Number text)) (decimal_lower d written.good) ∙ decimal_back place d written.good ∙ ap (λ (x : Decimal). Some x) (sym (parts_in_back place d written.good)))

other_number : (place : Place) (found : Lexeme) → (found.kind ≡ Number → ⊥) → number_of place found ≡ None
other_number place found never = by (same_kind found.kind Number) refl
  where
    by : (same : Bool) → same_kind found.kind Number ≡ same → cond same (decimal_of place found.text) None ≡ None
    by true e = absurd (never (same_kind_true found.kind Number e))
    by false e = refl

pub number_read : (old new : Lexer) (bytes : List ℕ) (place : Place) (d : Decimal) → d ≡ parts_in place bytes → IsToken Number bytes → TakesAt old new (lexeme Number (lower bytes)) place → number (items_left old) ≡ Ok (d, items_left new)
unfolding number
number_read old new bytes place d is token takes =
    token_taken number_of old new (lexeme Number (lower bytes)) place d takes (number_says bytes place token ∙ ap (λ (x : Decimal). Some x) (sym is))

pub number_missing : (old new : Lexer) → Leaves old new (λ found. found.kind ≡ Number) → number (items_left old) ≡ Err (items_left new)
unfolding number
number_missing old new leaves = token_missing number_of old new (λ found. found.kind ≡ Number) other_number leaves
