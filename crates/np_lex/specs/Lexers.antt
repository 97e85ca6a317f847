-- What a lexer has still to give, and what one reading does.
use Rattle.std.specs.Prelude.{◌≡◌, ℕ, ◌-◌, ◌<◌, ◌≤◌, ◌^◌, List, [], ◌∷◌, length, drop, slice_index, All, decimal}
use Rattle.std.specs.List.{slice_range}
use Rattle.np_lex.specs.declared.numbers.TheConstants.{MOST_DIGITS}
use Rattle.np_lex.specs.declared.reading.Lexer.{Lexer}
use Rattle.np_lex.specs.declared.token.Place.{Place}
use Rattle.np_lex.specs.declared.token.Token.{Token}
use Rattle.np_lex.specs.declared.token.BadByte.{BadByte}
use Rattle.np_lex.specs.LongestToken.{IsLongestToken, BeginsWithNoToken}
use Rattle.np_lex.specs.Tokens.{Lexeme, word, bad, end, Item, item_at, numeral, lexeme_of, span_of, place_of, items_from}

-- the text that the lexer reads
unfoldable pub bytes_of : Lexer → List ℕ
bytes_of lexer = lexer.bytes.now

-- the items that the lexer has still to give: never none, since the last is a bad byte or the end
unfoldable pub items_left : Lexer → List Item
items_left lexer = items_from lexer.bytes.now lexer.offset

-- the byte comes next
pub record IsNextByte (lexer : Lexer) (byte : ℕ) : Type 0 where
  pub in_range : lexer.offset < length lexer.bytes.now
  pub byte_is : slice_index lexer.bytes.now lexer.offset ≡ byte

-- the reading gives the token: it was the first of the items left, at its place, and the others are left
pub record GivesToken (old new : Lexer) (token : Token) : Type 0 where
  pub items : items_left old ≡ (record { piece = word (lexeme_of (bytes_of old) (span_of token)); place = token.place }) ∷ items_left new
  pub not_empty : token.from < token.to
  pub in_range : token.to ≤ length (bytes_of old)
  pub place : token.place ≡ place_of (bytes_of old) token.from
  pub ascii : All (λ b. b < 128) (slice_range (bytes_of old) token.from token.to)
  pub longest : IsLongestToken token.kind (token.to - token.from) (drop token.from (bytes_of old))

-- the reading finds the end: it was the only item left, and is still left
pub record FindsEnd (old new : Lexer) : Type 0 where
  pub items : items_left old ≡ item_at (bytes_of old) (length (bytes_of old)) end ∷ []
  pub stays : new ≡ old

-- the reading finds the bad byte: it was the only item left, and is still left
pub record FindsBadByte (old new : Lexer) (error : BadByte) : Type 0 where
  pub items : items_left old ≡ (record { piece = bad; place = error.place }) ∷ []
  pub in_range : error.place.offset < length (bytes_of old)
  pub place : error.place ≡ place_of (bytes_of old) error.place.offset
  pub no_token : BeginsWithNoToken (drop error.place.offset (bytes_of old))
  pub stays : new ≡ old

-- the reading takes the lexeme: it was the first of the items left, at this place, and the others are left
pub record Takes (old new : Lexer) (lexeme : Lexeme) : Type 0 where
  pub place : Place
  pub items : items_left old ≡ (record { piece = word lexeme; place = place }) ∷ items_left new

-- the reading takes nothing, since no lexeme of which the fact holds comes next
pub record Leaves (old new : Lexer) (P : Lexeme → Type 0) : Type 0 where
  pub stays : new ≡ old
  pub none : (lexeme : Lexeme) (place : Place) (others : List Item) → items_left old ≡ (record { piece = word lexeme; place = place }) ∷ others → P lexeme → ⊥

-- the decimal of a number of few digits
pub record IsShortNatural (lexeme : Lexeme) : Type 0 where
  pub number : ℕ
  pub small : number < 10 ^ MOST_DIGITS
  pub says : lexeme ≡ numeral (decimal number)
