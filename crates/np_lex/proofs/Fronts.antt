-- The first of the items left is what begins at the lexer's offset.
use Rattle.std.proofs.Common.{◌≡◌, ℕ, zero, suc, ◌+◌, ◌-◌, ◌<◌, ◌≤◌, List, [], ◌∷◌, length, get_or, drop, take, Option, None, Some, refl, sym, ◌∙◌, ap, subst, arith, length-drop, length-take, decimal, ◌^◌}
use Rattle.std.specs.Char.{to_ascii_lowercase}
use Rattle.std.proofs.Math.Seq.{drop-cons}
use Rattle.std.proofs.lemmas.List.{get_or-drop, length-map}
use Rattle.np_lex.specs.declared.reading.Lexer.{Lexer}
use Rattle.np_lex.specs.declared.token.Kind.{Kind}
use Rattle.np_lex.specs.declared.token.Place.{Place}
use Rattle.np_lex.specs.declared.token.Kind.TheVariants.{Left, Right, Name, Number}
use Rattle.np_lex.specs.FirstToken.{first_token, first_number}
use Rattle.np_lex.specs.LongestToken.{IsToken, TakesLongest, IsLongestToken}
use Rattle.np_lex.specs.Tokens.{Lexeme, lexeme_of, Piece, word, bad, end, lower, begun_at, taken_at, place_of, Item, item_then, items_from, left, right, named, numeral, BeginsWithName}
use Rattle.np_lex.specs.Lexers.{bytes_of, items_left, IsNextByte, IsShortNatural, Takes, Leaves}
use Rattle.np_lex.proofs.LongestLaw.{first_token-longest}
use Rattle.np_lex.proofs.NumberFronts.{number_found, no_number, number_is}
use Rattle.np_lex.proofs.Digits.{decimal_lower, decimal_lower_back}
use Rattle.np_lex.proofs.Streams.{after_blanks}
use Rattle.np_lex.proofs.Readings.{rest_of, items_left-next, gives_token}

-- the bytes begin with the token of this lexeme
pub record IsFront (rest : List ℕ) (lexeme : Lexeme) : Type 0 where
  pub size : ℕ
  pub first : first_token rest ≡ Some (lexeme.kind, size)
  pub text : lexeme.text ≡ lower (take size rest)

-- the lexeme of the first item, if it is one
abbrev lexeme_in : Piece → Option Lexeme
lexeme_in (word lexeme) = Some lexeme
lexeme_in bad = None
lexeme_in end = None

abbrev first_lexeme : List Item → Option Lexeme
first_lexeme [] = None
first_lexeme (item ∷ others) = lexeme_in item.piece

front_taken : (text : List ℕ) (start : ℕ) (found : Option (Kind × ℕ)) (later : ℕ → List Item) (lexeme : Lexeme) → first_token (drop start text) ≡ found → first_lexeme (item_then text (taken_at start found) later) ≡ Some lexeme → IsFront (drop start text) lexeme
front_taken text start None later lexeme first e = absurd cc
front_taken text start (Some (kind, n)) later lexeme first e =
    let size : start + n - start ≡ n = omega arith in
    let same : lexeme_of text (record { kind = kind; from = start; to = start + n }) ≡ lexeme = cc in
    record {
      size = n;
      first = first ∙ ap (λ (l : Lexeme). Some (l.kind, n)) same;
      text = ap (λ (l : Lexeme). l.text) (sym same) ∙ ap (λ (m : ℕ). lower (take m (drop start text))) size;
    }

front_begun : (text : List ℕ) (start : ℕ) (rest : List ℕ) (later : ℕ → List Item) (lexeme : Lexeme) → drop start text ≡ rest → first_lexeme (item_then text (begun_at start rest) later) ≡ Some lexeme → IsFront (drop start text) lexeme
front_begun text start [] later lexeme is e = absurd cc
front_begun text start (b ∷ bs) later lexeme is e = front_taken text start (first_token (b ∷ bs)) later lexeme (ap first_token is) e

-- the first lexeme is that of the token that the bytes at the start begin with
pub front_is : (lexer : Lexer) (lexeme : Lexeme) (place : Place) (others : List Item) → items_left lexer ≡ (record { piece = word lexeme; place = place }) ∷ others → IsFront (rest_of lexer) lexeme
front_is lexer lexeme place others e =
    front_begun lexer.bytes.now lexer.offset (rest_of lexer) (items_from lexer.bytes.now) lexeme refl
    (ap first_lexeme (sym (items_left-next lexer (begun_at lexer.offset (rest_of lexer)) refl) ∙ e))

-- a token has a byte
some_left : (rest : List ℕ) (kind : Kind) (n : ℕ) → first_token rest ≡ Some (kind, n) → 0 < length rest
some_left [] kind n e = absurd cc
some_left (b ∷ bs) kind n e = omega arith

-- what begins at the offset is taken where the lexer goes on after it
pub takes : (old new : Lexer) (kind : Kind) (n : ℕ) → first_token (rest_of old) ≡ Some (kind, n) → new.bytes ≡ old.bytes → new.offset ≡ after_blanks old.bytes.now (old.offset + n) → Takes old new (record { kind = kind; text = lower (take n (rest_of old)) })
unfolding bytes_of
takes old new kind n first bytes offset =
    let given = gives_token old new (record { kind = kind; from = old.offset; to = old.offset + n; place = place_of old.bytes.now old.offset }) n first refl refl bytes offset (some_left (rest_of old) kind n first) refl in
    let size : old.offset + n - old.offset ≡ n = omega arith in
    record {
      place = place_of old.bytes.now old.offset;
      items = given.items ∙ ap (λ (m : ℕ). (record { piece = word (record { kind = kind; text = lower (take m (rest_of old)) }); place = place_of old.bytes.now old.offset }) ∷ items_left new) size;
    }

-- the same of another text of the lexeme
other_text : (old new : Lexer) (kind : Kind) (text other : List ℕ) → text ≡ other → Takes old new (record { kind = kind; text = text }) → Takes old new (record { kind = kind; text = other })
other_text old new kind text other same taken = subst (λ (t : List ℕ). Takes old new (record { kind = kind; text = t })) same taken

-- nothing is taken where no token that the fact allows begins at the offset
pub leaves : (old new : Lexer) (P : Lexeme → Type 0) → new ≡ old → ((lexeme : Lexeme) → IsFront (rest_of old) lexeme → P lexeme → ⊥) → Leaves old new P
leaves old new P stays never = record { stays = stays; none = λ lexeme place others e holds. never lexeme (front_is old lexeme place others e) holds }

-- what begins at the offset begins with the next byte
next_byte : (lexer : Lexer) (byte : ℕ) → IsNextByte lexer byte → rest_of lexer ≡ byte ∷ drop (suc lexer.offset) lexer.bytes.now
next_byte lexer byte next = drop-cons lexer.bytes.now lexer.offset 0 next.in_range ∙ ap (λ (b : ℕ). b ∷ drop (suc lexer.offset) lexer.bytes.now) next.byte_is

byte_at : (text : List ℕ) (start byte : ℕ) (bs : List ℕ) → drop start text ≡ byte ∷ bs → (start < length text) × (get_or text start 0 ≡ byte)
byte_at text start byte bs e =
    let none : start + 0 ≡ start = omega arith in (
      omega (arith, ap length e, length-drop start text),
      ap (λ (n : ℕ). get_or text n 0) (sym none) ∙ sym (get_or-drop start text 0 0) ∙ ap (λ (l : List ℕ). get_or l 0 0) e,
    )

-- a text of which one byte is taken begins with it
taken_one : (n byte : ℕ) (rest : List ℕ) → take n rest ≡ byte ∷ [] → (bs : List ℕ) × (rest ≡ byte ∷ bs)
taken_one zero byte rest e = absurd cc
taken_one (suc n) byte [] e = absurd cc
taken_one (suc n) byte (b ∷ bs) e = let same : b ≡ byte = cc in (bs, ap (λ (x : ℕ). x ∷ bs) same)

-- ---- brackets

module _ (old new : Lexer) (kind : Kind) (byte : ℕ) where
  abbrev bracket : Lexeme
  bracket = record { kind = kind; text = byte ∷ [] }

  -- a bracket comes next, and is taken
  takes_bracket : ((bs : List ℕ) → first_token (byte ∷ bs) ≡ Some (kind, 1)) → lower (byte ∷ []) ≡ byte ∷ [] → IsNextByte old byte → new.bytes ≡ old.bytes → new.offset ≡ after_blanks old.bytes.now (old.offset + 1) → Takes old new bracket
  takes_bracket first plain next bytes offset =
      let rest = next_byte old byte next in
      let text : lower (take 1 (rest_of old)) ≡ byte ∷ [] = ap (λ (l : List ℕ). lower (take 1 l)) rest ∙ plain in
      let taken = takes old new kind 1 (ap first_token rest ∙ first (drop (suc old.offset) old.bytes.now)) bytes offset in
      other_text old new kind _ _ text taken

  -- another thing comes next
  leaves_bracket : ((text : List ℕ) → IsToken kind text → text ≡ byte ∷ []) → (IsNextByte old byte → ⊥) → new ≡ old → Leaves old new (λ lexeme. lexeme ≡ bracket)
  leaves_bracket token never stays = leaves old new (λ lexeme. lexeme ≡ bracket) stays none
    where
      longest : (lexeme : Lexeme) (front : IsFront (rest_of old) lexeme) → lexeme ≡ bracket → IsLongestToken kind front.size (rest_of old)
      longest lexeme front is =
          let first : first_token (rest_of old) ≡ Some (kind, front.size) = front.first ∙ ap (λ (l : Lexeme). Some (l.kind, front.size)) is in
          subst (TakesLongest (rest_of old)) first (first_token-longest (rest_of old))

      none : (lexeme : Lexeme) → IsFront (rest_of old) lexeme → lexeme ≡ bracket → ⊥
      none lexeme front is =
          let one = taken_one front.size byte (rest_of old) (token (take front.size (rest_of old)) (longest lexeme front is).is_token) in
          let at = byte_at old.bytes.now old.offset byte one.0 one.1 in
          never (record { in_range = at.0; byte_is = at.1 })

pub takes_left : (old new : Lexer) → IsNextByte old 40 → new.bytes ≡ old.bytes → new.offset ≡ after_blanks old.bytes.now (old.offset + 1) → Takes old new left
takes_left old new next bytes offset = takes_bracket old new Left 40 (λ bs. refl) refl next bytes offset

pub leaves_left : (old new : Lexer) → (IsNextByte old 40 → ⊥) → new ≡ old → Leaves old new (λ lexeme. lexeme ≡ left)
leaves_left old new never stays = leaves_bracket old new Left 40 (λ text is. is) never stays

pub takes_right : (old new : Lexer) → IsNextByte old 41 → new.bytes ≡ old.bytes → new.offset ≡ after_blanks old.bytes.now (old.offset + 1) → Takes old new right
takes_right old new next bytes offset = takes_bracket old new Right 41 (λ bs. refl) refl next bytes offset

pub leaves_right : (old new : Lexer) → (IsNextByte old 41 → ⊥) → new ≡ old → Leaves old new (λ lexeme. lexeme ≡ right)
leaves_right old new never stays = leaves_bracket old new Right 41 (λ text is. is) never stays

-- ---- names and numbers

size_le : (rest : List ℕ) (kind : Kind) (n : ℕ) → first_token rest ≡ Some (kind, n) → n ≤ length rest
size_le rest kind n first =
    let longest : IsLongestToken kind n rest = subst (TakesLongest rest) first (first_token-longest rest) in
    longest.in_range

pub takes_name : (old new : Lexer) (name : List ℕ) → BeginsWithName (rest_of old) name → new.bytes ≡ old.bytes → new.offset ≡ after_blanks old.bytes.now (old.offset + length name) → Takes old new (named name)
takes_name old new name begins bytes offset =
    let taken = takes old new Name (length name) begins.first bytes offset in
    other_text old new Name _ _ begins.text taken

pub leaves_name : (old new : Lexer) (name : List ℕ) → (BeginsWithName (rest_of old) name → ⊥) → new ≡ old → Leaves old new (λ lexeme. lexeme ≡ named name)
leaves_name old new name never stays = leaves old new (λ lexeme. lexeme ≡ named name) stays none
  where
    none : (lexeme : Lexeme) → IsFront (rest_of old) lexeme → lexeme ≡ named name → ⊥
    none lexeme front is =
        let text : lower (take front.size (rest_of old)) ≡ name = sym front.text ∙ ap (λ (l : Lexeme). l.text) is in
        let size : front.size ≡ length name =
        omega (arith, size_le (rest_of old) lexeme.kind front.size front.first, length-take front.size (rest_of old), length-map (take front.size (rest_of old)) to_ascii_lowercase, ap length text) in
        never (record {
          first = front.first ∙ ap (λ (l : Lexeme). Some (l.kind, front.size)) is ∙ ap (λ (n : ℕ). Some (Name, n)) size;
          text = ap (λ (n : ℕ). lower (take n (rest_of old))) (sym size) ∙ text;
        })

pub takes_number : (old new : Lexer) (n : ℕ) → first_number (rest_of old) ≡ Some n → new.bytes ≡ old.bytes → new.offset ≡ after_blanks old.bytes.now (old.offset + n) → Takes old new (numeral (lower (take (old.offset + n - old.offset) (drop old.offset new.bytes.now))))
takes_number old new n first bytes offset =
    let taken = takes old new Number n (number_found (rest_of old) n first) bytes offset in
    let size : n ≡ old.offset + n - old.offset = omega arith in
    other_text old new Number _ _ (λ i. lower (take (size i) (drop old.offset ((sym bytes) i).now))) taken

pub takes_natural : (old new : Lexer) (number n : ℕ) → number < 2 ^ 64 → first_number (rest_of old) ≡ Some n → take n (rest_of old) ≡ decimal number → new.bytes ≡ old.bytes → new.offset ≡ after_blanks old.bytes.now (old.offset + n) → Takes old new (numeral (decimal number))
takes_natural old new number n within first value bytes offset =
    let taken = takes old new Number n (number_found (rest_of old) n first) bytes offset in
    other_text old new Number _ _ (ap lower value ∙ decimal_lower number within) taken

pub leaves_number : (old new : Lexer) → first_number (rest_of old) ≡ None → new ≡ old → Leaves old new (λ lexeme. lexeme.kind ≡ Number)
leaves_number old new none stays =
    leaves old new (λ lexeme. lexeme.kind ≡ Number) stays
    (λ lexeme front is. no_number (rest_of old) front.size none (front.first ∙ ap (λ (k : Kind). Some (k, front.size)) is))

pub leaves_natural : (old new : Lexer) → ((n m : ℕ) → n < 10 ^ 18 → first_number (rest_of old) ≡ Some m → take m (rest_of old) ≡ decimal n → ⊥) → new ≡ old → Leaves old new IsShortNatural
leaves_natural old new never stays =
    leaves old new IsShortNatural stays
    (λ lexeme front short.
    let first = front.first ∙ ap (λ (l : Lexeme). Some (l.kind, front.size)) short.says in
    let text = sym front.text ∙ ap (λ (l : Lexeme). l.text) short.says in
    never short.number front.size short.small (number_is (rest_of old) front.size first) (decimal_lower_back (take front.size (rest_of old)) short.number (let small = short.small in omega arith) text))
