-- Literals of too many digits.
use Rattle.std.specs.Prelude.{◌≡◌, nat_lt, Bool, false, ◌&&◌, IsTrue, List, [], ◌∷◌, ◌++◌, All}
use Rattle.std.specs.List.{count_by}
use Rattle.np_lex.specs.declared.token.Kind.TheVariants.{Number}
use Rattle.np_lex.specs.declared.token.Place.{Place}
use Rattle.np_lex.specs.FirstToken.{is_digit}
use Rattle.np_lex.specs.Tokens.{Lexeme, Piece, word, bad, end, Item}
use Rattle.np_read.specs.Faults.{pieces_in, BeginsSpelling, IsFirstFault}
use Rattle.np_read.specs.Same.{same_kind}
use Rattle.np_words.specs.declared.read.wide.TheConstants.{MOST_DIGITS}

-- whether it is a number of more digits than may be: the sign and the point don't count
abbrev pub is_wide_lexeme : Lexeme → Bool
is_wide_lexeme lexeme = same_kind lexeme.kind Number && nat_lt MOST_DIGITS (count_by is_digit lexeme.text)

abbrev pub is_wide_piece : Piece → Bool
is_wide_piece (word lexeme) = is_wide_lexeme lexeme
is_wide_piece bad = false
is_wide_piece end = false

-- no item is such a number
abbrev pub IsShort : Item → Type 0
IsShort item = is_wide_piece item.piece ≡ false

-- the first of the items that is such a number, by its place
pub record IsFirstWide (items : List Item) (place : Place) : Type 0 where
  pub front : List Item
  pub number : Item
  pub after : List Item
  pub items_are : items ≡ front ++ number ∷ after
  pub place_is : number.place ≡ place
  pub wide : IsTrue (is_wide_piece number.piece)
  pub short : All IsShort front

-- no lexeme is such a number
abbrev pub IsShortLexeme : Lexeme → Type 0
IsShortLexeme lexeme = is_wide_lexeme lexeme ≡ false

module _ {A : Type 0} (IsValue : A → Type 0) (spelling : A → List Lexeme) (items : List Item) (place : Place) where
  -- the place is that of the first fault, and no number of too many digits is before it
  pub record IsSyntaxFault : Type 0 where
    pub fault : IsFirstFault IsValue spelling items place
    pub short : All IsShort fault.front

  -- the place is that of the first number of too many digits, and no fault is before it: up to it, the items begin the text of a value
  pub record IsWideFault : Type 0 where
    pub first : IsFirstWide items place
    pub goes_on : BeginsSpelling IsValue spelling (pieces_in (first.front ++ first.number ∷ []))
