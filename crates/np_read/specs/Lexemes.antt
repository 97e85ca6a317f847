-- The lexemes of a text.
use Rattle.std.specs.Prelude.{ℕ, List, [], ◌∷◌, Option, None, Some}
use Rattle.std.specs.Option.{option_map}
use Rattle.np_lex.specs.Tokens.{Lexeme, Piece, word, bad, end, Item, items_of}

-- the lexeme of a piece before the others; none at a bad byte, and nothing after the end
abbrev pub lexeme_before : Piece → Option (List Lexeme) → Option (List Lexeme)
lexeme_before (word lexeme) others = option_map (λ ls. lexeme ∷ ls) others
lexeme_before bad others = None
lexeme_before end others = Some []

-- the lexemes of items, where none of them is a bad byte
abbrev pub lexemes_in : List Item → Option (List Lexeme)
lexemes_in [] = Some []
lexemes_in (item ∷ items) = lexeme_before item.piece (lexemes_in items)

-- the lexemes of a text; none where it has a bad byte
abbrev pub lexemes : List ℕ → Option (List Lexeme)
lexemes text = lexemes_in (items_of text)
