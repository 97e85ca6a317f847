-- What a lexer takes, with its place.
use Rattle.std.specs.Prelude.{◌≡◌, ℕ, List, ◌∷◌}
use Rattle.np_lex.specs.declared.reading.Lexer.{Lexer}
use Rattle.np_lex.specs.declared.token.Kind.{Kind}
use Rattle.np_lex.specs.declared.token.Place.{Place}
use Rattle.np_lex.specs.Tokens.{Lexeme, word, lower}
use Rattle.np_lex.specs.Lexers.{items_left}
use Rattle.np_read.specs.declared.tokens.Found.{Found}

-- the lexeme of this kind and text
abbrev pub lexeme : Kind → List ℕ → Lexeme
lexeme kind text = record { kind = kind; text = text }

-- the lexeme of what was found
abbrev pub lexeme_of : Found → Lexeme
lexeme_of found = lexeme found.kind (lower found.text.now)

-- the lexeme was the first of the items left, at this place, and the others are left
pub record TakesAt (old new : Lexer) (taken : Lexeme) (place : Place) : Type 0 where
  pub items : items_left old ≡ (record { piece = word taken; place = place }) ∷ items_left new
