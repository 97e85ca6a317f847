-- The items that were passed, none of which is a number of too many digits.
use Rattle.std.proofs.Common.{◌≡◌, ℕ, ◌+◌, nat_lt, Bool, true, false, cond, ◌&&◌, List, [], ◌∷◌, ◌++◌, refl, sym, ap, subst, ◌∙◌, append_assoc, arith}
use Rattle.std.specs.Char.{to_ascii_lowercase}
use Rattle.std.specs.List.{All, count_by, slice_range}
use Rattle.std.proofs.lemmas.Bool.Decides.{nat_tests}
use Rattle.std.proofs.lemmas.List.Sums.{sum_by-cons}
use Rattle.std.proofs.lemmas.List.Elements.{All-nil, All-cons, All-append}
use Rattle.np_lex.specs.declared.reading.Lexer.{Lexer}
use Rattle.np_lex.specs.declared.token.Kind.{Kind}
use Rattle.np_lex.specs.declared.token.Kind.TheVariants.{Number}
use Rattle.np_lex.specs.declared.token.Token.{Token}
use Rattle.np_lex.specs.FirstToken.{is_digit}
use Rattle.np_lex.specs.Tokens.{word, Item, lower, lexeme_of, span_of}
use Rattle.np_lex.specs.Lexers.{bytes_of}
use Rattle.np_read.specs.Same.{same_kind}
use Rattle.np_read.proofs.Same.{same_kind_true}
use Rattle.np_words.specs.declared.read.wide.TheConstants.{MOST_DIGITS}
use Rattle.np_words.specs.Wide.{is_wide_piece, IsShort, IsFirstWide}

-- the items before those that are left, none of them wide
pub record Passed (items left : List Item) : Type 0 where
  pub front : List Item
  pub items_are : items ≡ front ++ left
  pub short : All IsShort front

pub none_passed : (items : List Item) → Passed items items
none_passed items = record { front = []; items_are = refl; short = All-nil IsShort }

pub one_passed : (items left : List Item) (item : Item) (after : List Item) → Passed items left → left ≡ item ∷ after → IsShort item → Passed items after
one_passed items left item after passed is short = record {
  front = passed.front ++ item ∷ [];
  items_are = passed.items_are ∙ ap (λ (more : List Item). passed.front ++ more) is ∙ sym (append_assoc passed.front (item ∷ []) after);
  short = All-append IsShort passed.front (item ∷ []) passed.short (All-cons IsShort item [] short (All-nil IsShort));
}

pub all_short : (items left : List Item) (item : Item) → Passed items left → left ≡ item ∷ [] → IsShort item → All IsShort items
all_short items left item passed is short =
    subst (All IsShort) (sym (passed.items_are ∙ ap (λ (more : List Item). passed.front ++ more) is))
    (All-append IsShort passed.front (item ∷ []) passed.short (All-cons IsShort item [] short (All-nil IsShort)))

pub first_of : (items left : List Item) (item : Item) (after : List Item) → Passed items left → left ≡ item ∷ after → is_wide_piece item.piece ≡ true → IsFirstWide items item.place
first_of items left item after passed is wide = record {
  front = passed.front;
  number = item;
  after = after;
  items_are = passed.items_are ∙ ap (λ (more : List Item). passed.front ++ more) is;
  place_is = refl;
  wide = wide;
  short = passed.short;
}

-- ---- tokens

digit_lower : (b : ℕ) → is_digit (to_ascii_lowercase b) ≡ is_digit b
digit_lower b = grind (arith, nat_tests)

count_lower : (text : List ℕ) → count_by is_digit (lower text) ≡ count_by is_digit text
count_lower [] = refl
count_lower (b ∷ bs) =
    sum_by-cons (λ c. cond (is_digit c) 1 0) (to_ascii_lowercase b) (lower bs) ∙ ap (λ (digit : Bool). cond digit 1 0 + count_by is_digit (lower bs)) (digit_lower b)
    ∙ ap (λ (n : ℕ). cond (is_digit b) 1 0 + n) (count_lower bs) ∙ sym (sum_by-cons (λ c. cond (is_digit c) 1 0) b bs)

abbrev pub item_of : Lexer → Token → Item
item_of old token = record { piece = word (lexeme_of (bytes_of old) (span_of token)); place = token.place }

abbrev text_of : Lexer → Token → List ℕ
text_of lexer token = slice_range (bytes_of lexer) token.from token.to

pub wide_item : (old : Lexer) (token : Token) (text : List ℕ) (wide : Bool) → token.kind ≡ Number → text ≡ text_of old token → wide ≡ nat_lt MOST_DIGITS (count_by is_digit text) → is_wide_piece (item_of old token).piece ≡ wide
wide_item old token text wide kind text_is says =
    ap (λ (k : Kind). same_kind k Number && nat_lt MOST_DIGITS (count_by is_digit (lower (text_of old token)))) kind
    ∙ ap (λ (n : ℕ). nat_lt MOST_DIGITS n) (count_lower (text_of old token) ∙ ap (count_by is_digit) (sym text_is)) ∙ sym says

pub other_item : (old : Lexer) (token : Token) → (token.kind ≡ Number → ⊥) → is_wide_piece (item_of old token).piece ≡ false
other_item old token never = by (same_kind token.kind Number) refl
  where
    by : (same : Bool) → same_kind token.kind Number ≡ same → (same && nat_lt MOST_DIGITS (count_by is_digit (lower (text_of old token)))) ≡ false
    by true e = absurd (never (same_kind_true token.kind Number e))
    by false e = refl
