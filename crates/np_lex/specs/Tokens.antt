-- The items of a text: its tokens, and what ends it.
use Rattle.std.specs.Prelude.{◌≡◌, ℕ, suc, zero, ◌+◌, ◌-◌, List, [], ◌∷◌, length, not, take, drop, map, Option, None, Some, codes}
use Rattle.std.specs.Char.{to_ascii_lowercase}
use Rattle.std.specs.List.{slice_range, count_by, suffix_len}
use Rattle.np_lex.specs.declared.token.Kind.{Kind}
use Rattle.np_lex.specs.declared.token.Kind.TheVariants.{Left, Right, Name, Number}
use Rattle.np_lex.specs.declared.token.Place.{Place}
use Rattle.np_lex.specs.declared.token.Token.{Token}
use Rattle.np_lex.specs.Blanks.{blank_length, is_line_feed}
use Rattle.np_lex.specs.FirstToken.{first_token}

-- the bytes with each capital letter as a small one
abbrev pub lower : List ℕ → List ℕ
lower text = map to_ascii_lowercase text

-- the name, which is of small letters, is the first token of the bytes
pub record BeginsWithName (bytes name : List ℕ) : Type 0 where
  pub first : first_token bytes ≡ Some (Name, length name)
  pub text : lower (take (length name) bytes) ≡ name

-- the place of an offset: the line counts the line feeds before it, and the column the bytes since the last of them, both from 1
abbrev pub place_of : List ℕ → ℕ → Place
place_of bytes offset = record {
  offset = offset;
  line = count_by is_line_feed (take offset bytes) + 1;
  column = suffix_len (λ b. not (is_line_feed b)) (take offset bytes) + 1;
}

-- a token: its kind, the offset of its first byte, and the offset after its last byte
pub record Span : Type 0 where
  pub kind : Kind
  pub from : ℕ
  pub to : ℕ

-- a token without its place
abbrev pub span_of : Token → Span
span_of token = record { kind = token.kind; from = token.from; to = token.to }

-- what comes next: a token, a bad byte at an offset, or the end of the text
pub data Next : Type 0 where
  taken : Span → Next
  bad_at : ℕ → Next
  ended : Next

-- the token that the bytes at this offset begin with, by its kind and length; where there is none, the byte at the offset is bad
abbrev pub taken_at : ℕ → Option (Kind × ℕ) → Next
taken_at offset None = bad_at offset
taken_at offset (Some token) = taken (record { kind = token.0; from = offset; to = offset + token.1 })

-- what begins at this offset, where no blank and no comment begins
abbrev pub begun_at : ℕ → List ℕ → Next
begun_at offset [] = ended
begun_at offset (b ∷ bs) = taken_at offset (first_token (b ∷ bs))

-- what comes next from this offset of the text on, after blanks and comments
abbrev pub next_from : List ℕ → ℕ → Next
next_from text offset =
    let start = offset + blank_length (drop offset text) in begun_at start (drop start text)

-- a token without its place: two tokens are the same where their kinds and their lower-cased bytes are
pub record Lexeme : Type 0 where
  pub kind : Kind
  pub text : List ℕ

-- an opening bracket
abbrev pub left : Lexeme
left = record { kind = Left; text = codes "(" }

-- a closing bracket
abbrev pub right : Lexeme
right = record { kind = Right; text = codes ")" }

-- this name, which is of small letters
abbrev pub named : List ℕ → Lexeme
named text = record { kind = Name; text = text }

-- the number with this text
abbrev pub numeral : List ℕ → Lexeme
numeral text = record { kind = Number; text = text }

-- what the token of the text says
abbrev pub lexeme_of : List ℕ → Span → Lexeme
lexeme_of text span = record { kind = span.kind; text = lower (slice_range text span.from span.to) }

-- what a text is made of: lexemes, and last a bad byte or the end
pub data Piece : Type 0 where
  word : Lexeme → Piece
  bad : Piece
  end : Piece

-- a piece and its place
pub record Item : Type 0 where
  pub piece : Piece
  pub place : Place

-- the piece at this offset of the text
abbrev pub item_at : List ℕ → ℕ → Piece → Item
item_at text offset piece = record { piece = piece; place = place_of text offset }

-- the item of what comes next, and after a token what the function gives at the offset after it
abbrev pub item_then : List ℕ → Next → (ℕ → List Item) → List Item
item_then text (taken span) later = item_at text span.from (word (lexeme_of text span)) ∷ later span.to
item_then text (bad_at offset) later = item_at text offset bad ∷ []
item_then text ended later = item_at text (length text) end ∷ []

-- the items from this offset of the text on, of which at most so many are tokens
unfoldable pub items_within : ℕ → List ℕ → ℕ → List Item
items_within zero text offset = item_at text (length text) end ∷ []
items_within (suc most) text offset = item_then text (next_from text offset) (λ after. items_within most text after)

-- the items from this offset of the text on: each token takes a byte at least
unfoldable pub items_from : List ℕ → ℕ → List Item
items_from text offset = items_within (length text - offset) text offset

-- the items of a text: its tokens, and last the first bad byte or the end
abbrev pub items_of : List ℕ → List Item
items_of text = items_from text 0

-- the place of the first item
abbrev pub first_place : List Item → Option Place
first_place [] = None
first_place (item ∷ items) = Some item.place
