-- Numbers: what is read is spelled so, and what is spelled so is read.
use Rattle.std.proofs.Common.{◌≡◌, ℕ, zero, suc, ◌≤◌, ◌<◌, ◌^◌, ℤ, pos, negsuc, Bool, true, false, cond, ◌&&◌, List, [], ◌∷◌, Option, Some, None, Result, Ok, refl, sym, ap, subst, ◌∙◌, arith, eqb, ltb, decimal}
use Rattle.std.specs.Prelude.{unsigned_abs}
use Rattle.std.specs.Option.{option_map}
use Rattle.std.specs.Char.{to_ascii_lowercase}
use Rattle.std.specs.Int.{IsInRange}
use Rattle.std.specs.Str.{bytes_eq, IsUtf8}
use Rattle.std.specs.Str.Parse.{AllDigits, IsNumeral, digits_value, ParsesUnsigned}
use Rattle.std.proofs.lemmas.Str.{IsUtf8-from_ascii}
use Rattle.std.proofs.lemmas.Str.Parse.{digit_from_value}
use Rattle.std.proofs.lemmas.Fmt.{decimal_is_IsNumeral_wide, IsAscii-decimal_wide, parse-decimal_wide}
use Rattle.std.proofs.lemmas.Bool.Decides.{nat_tests}
use Rattle.std.proofs.lemmas.Slice.Eq.{bytes_eq-Decides}
use Rattle.np_lex.specs.Tokens.{Piece, Lexeme, lower, right}
use Rattle.np_lex.specs.declared.token.Kind.TheVariants.{Number}
use Rattle.np_read.specs.Same.{same_kind}
use Rattle.np_lex.proofs.Digits.{lower_digits, lower_digits_back}
use Rattle.np_cert.specs.Text.{most, integer_text}
use Rattle.np_cert.specs.Text as printed
use Rattle.np_read.specs.ItemReaders.{pure, refuse, chosen, says, of_number, number_by}
use Rattle.np_read.proofs.Good.{Starts}
use Rattle.np_read.proofs.GoodParts.{starts_number}
use Rattle.np_read.proofs.Spelled.{Reads, Avoids, reads_number}
use Rattle.np_cert.specs.ReadingForm.{natural_of, below_zero, integer_of, natural, integer}

-- what holds of the value, where there is one
abbrev pub IfThere : {A : Type 0} → (A → Type 0) → Option A → Type 0
IfThere Q None = Unit {0}
IfThere Q (Some a) = Q a

-- ---- without a sign

-- the text of a number below the bound
pub record SaysNatural (bound : ℕ) (text : List ℕ) (n : ℕ) : Type 0 where
  pub below : n < bound
  pub text_is : text ≡ decimal n

natural_by : (bound : ℕ) (text : List ℕ) (n : ℕ) (a b : Bool) → ltb n bound ≡ a → bytes_eq (decimal n) text ≡ b → IfThere (SaysNatural bound text) (cond (a && b) (Some n) None)
natural_by bound text n true true below same = record { below = grind (arith, nat_tests); text_is = sym ((bytes_eq-Decides (decimal n) text).0 same) }
natural_by bound text n true false below same = tt
natural_by bound text n false b below same = tt

pub natural_says : (bound : ℕ) (text : List ℕ) → IfThere (SaysNatural bound text) (natural_of bound text)
unfolding natural_of
natural_says bound text =
    natural_by bound text (digits_value 10 text) (ltb (digits_value 10 text) bound) (bytes_eq (decimal (digits_value 10 text)) text) refl refl

-- numbers within the bound have at most 64 digits
pub is_numeral : (bound n : ℕ) → bound ≤ most → n < bound → IsNumeral 10 (decimal n) × (digits_value 10 (decimal n) ≡ n)
is_numeral bound n small below = decimal_is_IsNumeral_wide n (omega arith)

pub natural_is : (bound n : ℕ) → bound ≤ most → n < bound → natural_of bound (decimal n) ≡ Some n
unfolding natural_of
natural_is bound n small below =
    let less : ltb n bound ≡ true = grind (arith, nat_tests) in
    let same : bytes_eq (decimal n) (decimal n) ≡ true = (bytes_eq-Decides (decimal n) (decimal n)).1 refl in
    ap (λ (m : ℕ). cond (ltb m bound && bytes_eq (decimal m) (decimal n)) (Some m) None) (is_numeral bound n small below).1
    ∙ ap (λ (b : Bool). cond (b && bytes_eq (decimal n) (decimal n)) (Some n) None) less
    ∙ ap (λ (b : Bool). cond b (Some n) None) same

and_true : (b : Bool) → (b && true) ≡ b
and_true true = refl
and_true false = refl

-- what the decimal of a number says
pub natural_decimal : (bound n : ℕ) → n < 2 ^ 64 → natural_of bound (decimal n) ≡ cond (ltb n bound) (Some n) None
unfolding natural_of
natural_decimal bound n small =
    let same : bytes_eq (decimal n) (decimal n) ≡ true = (bytes_eq-Decides (decimal n) (decimal n)).1 refl in
    ap (λ (m : ℕ). cond (ltb m bound && bytes_eq (decimal m) (decimal n)) (Some m) None) (decimal_is_IsNumeral_wide n (omega arith)).1
    ∙ ap (λ (b : Bool). cond (ltb n bound && b) (Some n) None) same
    ∙ ap (λ (b : Bool). cond b (Some n) None) (and_true (ltb n bound))

-- ---- what a parser and a printer tell

none_by : {A : Type 0} (Q : A → Type 0) (o : Option A) → IfThere Q o → ((a : A) → Q a → ⊥) → o ≡ None
none_by Q None h never = refl
none_by Q (Some a) h never = absurd (never a h)

pub natural_none : (bound : ℕ) (text : List ℕ) → ((n : ℕ) → SaysNatural bound text n → ⊥) → natural_of bound text ≡ None
natural_none bound text never = none_by (SaysNatural bound text) (natural_of bound text) (natural_says bound text) never

pub natural_some : (bound : ℕ) (text : List ℕ) (n : ℕ) → bound ≤ most → SaysNatural bound text n → natural_of bound text ≡ Some n
natural_some bound text n small says = ap (natural_of bound) says.text_is ∙ natural_is bound n small says.below

pub says_utf8 : (bound : ℕ) (text : List ℕ) (n : ℕ) → bound ≤ most → SaysNatural bound text n → IsUtf8 text
says_utf8 bound text n small says = subst IsUtf8 (sym says.text_is) (IsUtf8-from_ascii (decimal n) (IsAscii-decimal_wide n (let k = says.below in omega arith)))

pub says_parsed : {E : Type 0} (bound : ℕ) (text : List ℕ) (n : ℕ) (r : Result ℕ E) → bound ≤ most → SaysNatural bound text n → ParsesUnsigned 128 10 text r → r ≡ Ok n
says_parsed bound text n r small says parses =
    let below = says.below in parse-decimal_wide 128 n text r (omega arith) (omega arith) says.text_is parses

module _ {E : Type 0} (bound : ℕ) (text : List ℕ) (m : ℕ) (r : Result ℕ E) (small : bound ≤ most) (parses : ParsesUnsigned 128 10 text r) (is : r ≡ Ok m) where
  -- the number that the text says is the one that was parsed
  parsed_is : (n : ℕ) → SaysNatural bound text n → n ≡ m
  parsed_is n says = let e = says_parsed bound text n r small says parses in cc

  pub natural_above : bound ≤ m → natural_of bound text ≡ None
  natural_above above = natural_none bound text (λ n says. let below = says.below in let e = parsed_is n says in omega arith)

  pub natural_unlike : (text ≡ decimal m → ⊥) → natural_of bound text ≡ None
  natural_unlike unlike = natural_none bound text (λ n says. unlike (says.text_is ∙ ap decimal (parsed_is n says)))

-- ---- with a sign

abbrev IsBelowMost : ℤ → Type 0
IsBelowMost v = unsigned_abs v < most

pub record SaysInteger (text : List ℕ) (v : ℤ) : Type 0 where
  pub below : IsBelowMost v
  pub text_is : text ≡ integer_text v

below_says : (digits : List ℕ) (o : Option ℕ) → IfThere (SaysNatural most digits) o → IfThere (SaysInteger (45 ∷ digits)) (below_zero o)
below_says digits None h = tt
below_says digits (Some zero) h = tt
below_says digits (Some (suc n)) h = record { below = h.below; text_is = ap (λ (ds : List ℕ). 45 ∷ ds) h.text_is }

above_says : (text : List ℕ) (o : Option ℕ) → IfThere (SaysNatural most text) o → IfThere (SaysInteger text) (option_map pos o)
above_says text None h = tt
above_says text (Some n) h = record { below = h.below; text_is = h.text_is }

integer_by : (first : ℕ) (digits : List ℕ) (b : Bool) → eqb first 45 ≡ b → IfThere (SaysInteger (first ∷ digits)) (cond b (below_zero (natural_of most digits)) (option_map pos (natural_of most (first ∷ digits))))
integer_by first digits true e =
    let is : 45 ≡ first = grind (arith, nat_tests) in
    subst (λ (c : ℕ). IfThere (SaysInteger (c ∷ digits)) (below_zero (natural_of most digits))) is (below_says digits (natural_of most digits) (natural_says most digits))
integer_by first digits false e = above_says (first ∷ digits) (natural_of most (first ∷ digits)) (natural_says most (first ∷ digits))

integer_says : (text : List ℕ) → IfThere (SaysInteger text) (integer_of text)
unfolding integer_of
integer_says [] = tt
integer_says (first ∷ digits) = integer_by first digits (eqb first 45) refl

-- a digit is no minus sign
unsigned : (text : List ℕ) → IsNumeral 10 text → integer_of text ≡ option_map pos (natural_of most text)
unfolding integer_of
unsigned [] h = absurd (omega (arith, h.0))
unsigned (first ∷ digits) h =
    let digit : IsInRange 48 57 first = digit_from_value first h.1.0 in
    let plain : eqb first 45 ≡ false = grind (arith, nat_tests) in
    ap (λ (b : Bool). cond b (below_zero (natural_of most digits)) (option_map pos (natural_of most (first ∷ digits)))) plain

pub integer_is : (v : ℤ) → IsBelowMost v → integer_of (integer_text v) ≡ Some v
unfolding integer_of
integer_is (pos n) h = unsigned (decimal n) (is_numeral most n (omega arith) h).0 ∙ ap (λ (o : Option ℕ). option_map pos o) (natural_is most n (omega arith) h)
integer_is (negsuc n) h = ap below_zero (natural_is most (suc n) (omega arith) h)

-- ---- as they are read

there : {A : Type 0} (Q : A → Type 0) (o : Option A) (a : A) → IfThere Q o → o ≡ Some a → Q a
there Q o a h e = subst (IfThere Q) e h

natural_pair : (bound : ℕ) (text : List ℕ) (n : ℕ) → natural_of bound text ≡ Some n → (n < bound) × (text ≡ decimal n)
natural_pair bound text n e = let h = there (SaysNatural bound text) (natural_of bound text) n (natural_says bound text) e in (h.below, h.text_is)

pub reads_natural : (bound : ℕ) → bound ≤ most → Reads (λ n. n < bound) printed.natural ◌≡◌ (natural bound)
unfolding natural
reads_natural bound small = reads_number (natural_of bound) (λ n. n < bound) decimal (natural_pair bound) (λ n below. natural_is bound n small below)

pub starts_natural : (k bound : ℕ) → bound ≤ most → 0 < bound → Starts k (natural bound)
unfolding natural
starts_natural k bound small some = starts_number k (natural_of bound) (decimal 0) 0 (natural_is bound 0 small some)

integer_pair : (text : List ℕ) (v : ℤ) → integer_of text ≡ Some v → (unsigned_abs v < most) × (text ≡ integer_text v)
integer_pair text v e = let h = there (SaysInteger text) (integer_of text) v (integer_says text) e in (h.below, h.text_is)

pub reads_integer : Reads (λ v. unsigned_abs v < most) printed.integer ◌≡◌ integer
unfolding integer
reads_integer = reads_number integer_of (λ v. unsigned_abs v < most) integer_text integer_pair integer_is

pub starts_integer : (k : ℕ) → Starts k integer
unfolding integer
starts_integer k = starts_number k integer_of (integer_text (pos 0)) (pos 0) (integer_is (pos 0) (omega arith))

-- no other lexeme is a number
no_number : {A : Type 0} (value : List ℕ → Option A) (lexeme : Lexeme) → same_kind lexeme.kind Number ≡ false → of_number value lexeme ≡ None
no_number value lexeme other = ap (λ (b : Bool). cond b (value lexeme.text) None) other

avoids_by : {A : Type 0} (value : List ℕ → Option A) (lexeme : Lexeme) → same_kind lexeme.kind Number ≡ false → Avoids lexeme (number_by value)
unfolding number_by
avoids_by {A = A} value lexeme other item items is =
    ap (λ (o : Option A). chosen o pure (refuse (item ∷ items)) items) (ap (λ (p : Piece). says (of_number value) p) is ∙ no_number value lexeme other)

pub natural_avoids : (lexeme : Lexeme) → same_kind lexeme.kind Number ≡ false → (bound : ℕ) → Avoids lexeme (natural bound)
unfolding natural
natural_avoids lexeme other bound = avoids_by (natural_of bound) lexeme other

pub integer_avoids : Avoids right integer
unfolding integer
integer_avoids = avoids_by integer_of right refl

-- ---- capital letters

lower_minus : (b : ℕ) → eqb (to_ascii_lowercase b) 45 ≡ eqb b 45
lower_minus b = grind (arith, nat_tests)

module _ (bound : ℕ) (small : bound ≤ most) (text : List ℕ) where
  says_digits : (t : List ℕ) (n : ℕ) → SaysNatural bound t n → AllDigits 10 t
  says_digits t n says = subst (AllDigits 10) (sym says.text_is) (is_numeral bound n small says.below).0.1

  lower_by : (a b : Option ℕ) → IfThere (SaysNatural bound (lower text)) a → IfThere (SaysNatural bound text) b → natural_of bound (lower text) ≡ a → natural_of bound text ≡ b → natural_of bound (lower text) ≡ natural_of bound text
  lower_by None None h k e f = e ∙ sym f
  lower_by None (Some n) h k e f = ap (natural_of bound) (lower_digits text (says_digits text n k))
  lower_by (Some n) b h k e f = ap (natural_of bound) (lower_digits_back text (says_digits (lower text) n h))

-- no number has a capital letter
pub natural_of_lower : (bound : ℕ) (text : List ℕ) → bound ≤ most → natural_of bound (lower text) ≡ natural_of bound text
natural_of_lower bound text small =
    lower_by bound small text (natural_of bound (lower text)) (natural_of bound text) (natural_says bound (lower text)) (natural_says bound text) refl refl

pub integer_of_lower : (text : List ℕ) → integer_of (lower text) ≡ integer_of text
unfolding integer_of
integer_of_lower [] = refl
integer_of_lower (first ∷ digits) =
    ap (λ (b : Bool). cond b (below_zero (natural_of most (lower digits))) (option_map pos (natural_of most (lower (first ∷ digits))))) (lower_minus first)
    ∙ ap (λ (o : Option ℕ). cond (eqb first 45) (below_zero o) (option_map pos (natural_of most (lower (first ∷ digits))))) (natural_of_lower most digits (omega arith))
    ∙ ap (λ (o : Option ℕ). cond (eqb first 45) (below_zero (natural_of most digits)) (option_map pos o)) (natural_of_lower most (first ∷ digits) (omega arith))
