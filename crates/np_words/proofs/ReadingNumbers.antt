-- Numbers are read as they are spelled, and stand where they say.
use Rattle.std.proofs.Common.{◌≡◌, ℕ, Bool, true, false, ◌==◌, ◌&&◌, cond, List, [], ◌∷◌, ◌++◌, length, take, drop, Option, None, Some, refl, sym, ap, subst, ◌∙◌, arith, codes}
use Rattle.std.specs.Str.{bytes_eq}
use Rattle.std.specs.List.{prefix_len, list_all}
use Rattle.std.proofs.Math.Seq.{take-append_seam, drop-append_seam}
use Rattle.std.proofs.lemmas.Slice.Eq.{bytes_eq-Decides}
use Rattle.std.proofs.lemmas.Bool.Decides.{nat_tests}
use Rattle.np_lex.specs.declared.token.Kind.{Kind}
use Rattle.np_lex.specs.declared.token.Kind.TheVariants.{Number}
use Rattle.np_lex.specs.declared.token.Place.{Place}
use Rattle.np_lex.specs.FirstToken.{is_digit}
use Rattle.np_lex.specs.LongestToken.{is_digits}
use Rattle.np_lex.specs.Tokens.{Lexeme, word, numeral}
use Rattle.np_lex.proofs.LongestLaw.{prefix_len-append_all}
use Rattle.np_read.specs.Same.{same_kind}
use Rattle.np_read.proofs.Same.{same_kind_true, both_true}
use Rattle.np_read.proofs.Good.{Starting}
use Rattle.np_read.proofs.Spelled.{Reads, Avoids}
use Rattle.np_read.proofs.Marked.{Placed}
use Rattle.np_read.proofs.PlacedParts.{starts_token, reads_token, placed_token, silent, token_refuses}
use Rattle.np_words.specs.declared.word.Decimal.{Decimal}
use Rattle.np_words.specs.Bare.{nowhere, bare_decimal}
use Rattle.np_words.specs.Written.{is_part, is_decimal, IsDecimal}
use Rattle.np_words.specs.Text.{sign_text, part_text, decimal_text, spelled, marked}
use Rattle.np_words.specs.Text as text
use Rattle.np_words.specs.ReadingForm.{is_negative, unsigned_in, part_in, parts_of, parts_in, decimal_if, decimal_of, number_of, number}

-- the same but for the place
abbrev pub SameDecimal : Decimal → Decimal → Type 0
SameDecimal a b = bare_decimal a ≡ bare_decimal b

abbrev pub decimal_at : Place → Decimal → Decimal
decimal_at place d = record { negative = d.negative; whole = d.whole; part = d.part; place = place }

-- ---- the parts of a number's text

all_digits : (digits : List ℕ) → is_digits digits ≡ true → list_all is_digit digits ≡ true
all_digits [] e = refl
all_digits (b ∷ bs) e = e

point_stops : (part : Option (List ℕ)) → prefix_len is_digit (part_text part) ≡ 0
point_stops None = refl
point_stops (Some digits) = refl

part_back : (part : Option (List ℕ)) → part_in (part_text part) ≡ part
part_back None = refl
part_back (Some digits) = refl

abbrev split_at : Place → Bool → ℕ → List ℕ → Decimal
split_at place negative n found = record { negative = negative; whole = take n found; part = part_in (drop n found); place = place }

parts_back : (place : Place) (negative : Bool) (whole : List ℕ) (part : Option (List ℕ)) → is_digits whole ≡ true → parts_of place negative (whole ++ part_text part) ≡ record { negative = negative; whole = whole; part = part; place = place }
parts_back place negative whole part digits =
    let found = whole ++ part_text part in
    let count : prefix_len is_digit found ≡ length whole = omega (arith, prefix_len-append_all is_digit whole (part_text part) (all_digits whole digits), point_stops part) in
    ap (λ (n : ℕ). split_at place negative n found) count
    ∙ ap (λ (digits : List ℕ). record { negative = negative; whole = digits; part = part_in (drop (length whole) found); place = place }) (take-append_seam whole (part_text part))
    ∙ ap (λ (more : Option (List ℕ)). record { negative = negative; whole = whole; part = more; place = place }) (ap part_in (drop-append_seam whole (part_text part)) ∙ part_back part)

-- a digit is no sign
no_sign : (b : ℕ) → is_digit b ≡ true → (b == 45) ≡ false
no_sign b e = grind (arith, nat_tests)

signed_back : (negative : Bool) (whole rest : List ℕ) → is_digits whole ≡ true → (is_negative (sign_text negative ++ (whole ++ rest)) ≡ negative) × (unsigned_in (sign_text negative ++ (whole ++ rest)) ≡ whole ++ rest)
signed_back true whole rest e = (refl, refl)
signed_back false [] rest e = absurd cc
signed_back false (b ∷ bs) rest e =
    let digit = (both_true (is_digit b) (list_all is_digit bs) e).0 in
    (no_sign b digit, ap (λ (sign : Bool). cond sign (bs ++ rest) (b ∷ (bs ++ rest))) (no_sign b digit))

pub decimal_digits : (d : Decimal) → IsDecimal d → (is_digits d.whole ≡ true) × (is_part d.part ≡ true)
unfolding is_decimal
decimal_digits d h = both_true (is_digits d.whole) (is_part d.part) h

pub parts_in_back : (place : Place) (d : Decimal) → IsDecimal d → parts_in place (decimal_text d) ≡ decimal_at place d
unfolding parts_in
parts_in_back place d h =
    let digits = (decimal_digits d h).0 in
    let signed = signed_back d.negative d.whole (part_text d.part) digits in
    ap (λ (negative : Bool). parts_of place negative (unsigned_in (decimal_text d))) signed.0 ∙ ap (parts_of place d.negative) signed.1 ∙ parts_back place d.negative d.whole d.part digits

-- ---- the law of a number's token

decimal_is : (found : List ℕ) (c d : Decimal) (good : Bool) → is_decimal c && bytes_eq (decimal_text c) found ≡ good → cond good (Some c) None ≡ Some d → (c ≡ d) × (IsDecimal c) × (decimal_text c ≡ found)
decimal_is found c d true e is =
    let h = both_true (is_decimal c) (bytes_eq (decimal_text c) found) e in
    ((let same : c ≡ d = cc in same), h.0, (bytes_eq-Decides (decimal_text c) found).0 h.1)
decimal_is found c d false e is = absurd cc

parts_place : (place : Place) (found : List ℕ) → (parts_in place found).place ≡ place
unfolding parts_in
parts_place place found = refl

decimal_parts : (place : Place) (found : List ℕ) (d : Decimal) → decimal_of place found ≡ Some d → IsDecimal d × (found ≡ decimal_text d) × (d.place ≡ place)
decimal_parts place found d e =
    let c = parts_in place found in
    let h = decimal_is found c d (is_decimal c && bytes_eq (decimal_text c) found) refl e in
    (subst IsDecimal h.0 h.1, sym h.2 ∙ ap decimal_text h.0, sym (ap (λ (x : Decimal). x.place) h.0) ∙ parts_place place found)

pub decimal_back : (place : Place) (d : Decimal) → IsDecimal d → decimal_of place (decimal_text d) ≡ Some (decimal_at place d)
unfolding is_decimal
decimal_back place d h =
    ap (decimal_if (decimal_text d)) (parts_in_back place d h)
    ∙ ap (λ (good : Bool). cond (good && bytes_eq (decimal_text d) (decimal_text d)) (Some (decimal_at place d)) None) h
    ∙ ap (λ (good : Bool). cond good (Some (decimal_at place d)) None) ((bytes_eq-Decides (decimal_text d) (decimal_text d)).1 refl)

number_by : (place : Place) (lexeme : Lexeme) (d : Decimal) (same : Bool) → same_kind lexeme.kind Number ≡ same → cond same (decimal_of place lexeme.text) None ≡ Some d → IsDecimal d × (lexeme ≡ numeral (decimal_text d)) × (d.place ≡ place)
number_by place lexeme d true is e =
    let h = decimal_parts place lexeme.text d e in
    (h.0, ap (λ (k : Kind). record { kind = k; text = lexeme.text }) (same_kind_true lexeme.kind Number is) ∙ ap (λ (t : List ℕ). numeral t) h.1, h.2)
number_by place lexeme d false is e = absurd cc

number_parts : (place : Place) (lexeme : Lexeme) (d : Decimal) → number_of place lexeme ≡ Some d → IsDecimal d × (lexeme ≡ numeral (decimal_text d)) × (d.place ≡ place)
number_parts place lexeme d e = number_by place lexeme d (same_kind lexeme.kind Number) refl e

zero_decimal : Decimal
zero_decimal = record { negative = false; whole = codes "0"; part = None; place = nowhere }

is_zero : IsDecimal zero_decimal
unfolding zero_decimal is_decimal
is_zero = refl

pub starting_decimal : Starting number
unfolding number
starting_decimal k = starts_token k number_of nowhere (numeral (decimal_text zero_decimal)) (decimal_at nowhere zero_decimal) (decimal_back nowhere zero_decimal is_zero)

pub reads_decimal : Reads IsDecimal (text.number spelled) SameDecimal number
unfolding number
reads_decimal =
    reads_token number_of IsDecimal (λ d. numeral (decimal_text d)) SameDecimal (λ place lexeme d e. let h = number_parts place lexeme d e in (h.0, h.1))
    (λ place d h. (decimal_at place d, decimal_back place d h, refl))

pub placed_decimal : Placed IsDecimal (text.number marked) number
unfolding number
placed_decimal =
    placed_token number_of IsDecimal (λ d. marked (d.place ∷ []) (numeral (decimal_text d)))
    (λ place lexeme d e. let h = number_parts place lexeme d e in (h.0, record { piece = ap (λ (l : Lexeme). word l) h.1; places = (h.2, tt) }))

pub decimal_avoids : (lexeme : Lexeme) → ((place : Place) → number_of place lexeme ≡ None) → Avoids lexeme number
unfolding number
decimal_avoids lexeme none item items is = token_refuses number_of item items (silent number_of item lexeme is (none item.place))
