-- Pieces: what readers go by that refuse without a place. They are the items without their places, and without the end.
use Rattle.std.specs.Prelude.{ℕ, List, [], ◌∷◌}
use Rattle.np_lex.specs.declared.reading.Lexer.{Lexer}
use Rattle.np_lex.specs.Tokens.{Lexeme, Item, items_of}
use Rattle.np_lex.specs.Tokens as text
use Rattle.np_lex.specs.Lexers.{items_left}

-- a lexeme, or a bad byte
pub data Piece : Type 0 where
  word : Lexeme → Piece
  bad : Piece

-- the piece of an item before the others; nothing is after the end
abbrev pub piece_before : text.Piece → List Piece → List Piece
piece_before (text.word lexeme) others = word lexeme ∷ others
piece_before text.bad others = bad ∷ others
piece_before text.end others = []

-- the pieces of items
abbrev pub pieces_of : List Item → List Piece
pieces_of [] = []
pieces_of (item ∷ items) = piece_before item.piece (pieces_of items)

-- the pieces of a text
abbrev pub pieces : List ℕ → List Piece
pieces bytes = pieces_of (items_of bytes)

-- the pieces that the lexer has still to give
unfoldable pub pieces_left : Lexer → List Piece
pieces_left lexer = pieces_of (items_left lexer)
