-- The first fault of a text.
use Rattle.std.specs.Prelude.{◌≡◌, List, [], ◌∷◌, ◌++◌, map}
use Rattle.np_lex.specs.declared.token.Place.{Place}
use Rattle.np_lex.specs.Tokens.{Lexeme, Piece, word, end, Item}

-- the pieces of items
abbrev pub pieces_in : List Item → List Piece
pieces_in items = map (λ item. item.piece) items

-- lexemes before other pieces
abbrev pub onto : List Lexeme → List Piece → List Piece
onto [] others = others
onto (lexeme ∷ ls) others = word lexeme ∷ onto ls others

-- the pieces of a text of these lexemes: the last is the end
abbrev pub whole_pieces : List Lexeme → List Piece
whole_pieces ls = onto ls (end ∷ [])

-- the pieces begin the text of some value
pub record BeginsSpelling {A : Type 0} (IsValue : A → Type 0) (spelling : A → List Lexeme) (front : List Piece) : Type 0 where
  pub value : A
  pub is_value : IsValue value
  pub more : List Piece
  pub begins : whole_pieces (spelling value) ≡ front ++ more

-- the place is that of the first fault: the items before the one there begin the text of some value, and with that one they begin none
pub record IsFirstFault {A : Type 0} (IsValue : A → Type 0) (spelling : A → List Lexeme) (items : List Item) (place : Place) : Type 0 where
  pub front : List Item
  pub fault : Item
  pub after : List Item
  pub items_are : items ≡ front ++ fault ∷ after
  pub place_is : fault.place ≡ place
  pub goes_on : BeginsSpelling IsValue spelling (pieces_in front)
  pub stops : BeginsSpelling IsValue spelling (pieces_in (front ++ fault ∷ [])) → ⊥
