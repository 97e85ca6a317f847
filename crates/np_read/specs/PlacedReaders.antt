-- Readers of lexemes by what they say at their place.
use Rattle.std.specs.Prelude.{Option, None, Some, if◌then◌else◌}
use Rattle.np_lex.specs.declared.token.Place.{Place}
use Rattle.np_lex.specs.Tokens.{Lexeme}
use Rattle.np_read.specs.Same.{same_lexeme}
use Rattle.np_read.specs.ItemReaders.{Reader, by_next, take, says}

-- what the next lexeme says at its place
unfoldable pub token_by : {A : Type 0} → (Place → Lexeme → Option A) → Reader A
token_by value = take (λ item. says (value item.place) item.piece)

-- the place, where the lexeme is the wanted one
abbrev pub place_if : Lexeme → Place → Lexeme → Option Place
place_if lexeme place found = if same_lexeme found lexeme then Some place else None

-- this lexeme, as its place
abbrev pub placed : Lexeme → Reader Place
placed lexeme = token_by (place_if lexeme)

-- where the next lexeme says something, what follows it; else the other reader, from that lexeme on
unfoldable pub either_by : {A B : Type 0} → (Place → Lexeme → Option B) → (B → Reader A) → Reader A → Reader A
either_by value follow other = by_next (λ item. says (value item.place) item.piece) follow other
