-- How words and numbers are read.
use Rattle.std.specs.Prelude.{ℕ, Bool, false, ◌==◌, ◌&&◌, List, [], ◌∷◌, bytes_eq, take, drop, Option, None, Some, if◌then◌else◌}
use Rattle.std.specs.List.{prefix_len}
use Rattle.np_lex.specs.declared.token.Kind.TheVariants.{Name, Variable, Keyword, Number}
use Rattle.np_lex.specs.declared.token.Place.{Place}
use Rattle.np_lex.specs.FirstToken.{is_digit}
use Rattle.np_lex.specs.Tokens.{Lexeme}
use Rattle.np_read.specs.ItemReaders.{Reader, pure, made}
use Rattle.np_read.specs.PlacedReaders.{token_by, either_by}
use Rattle.np_read.specs.Same.{same_kind}
use Rattle.np_words.specs.declared.word.Word.{Word}
use Rattle.np_words.specs.declared.word.Ident.{Ident}
use Rattle.np_words.specs.declared.word.Ident.TheVariants as ident
use Rattle.np_words.specs.declared.word.Decimal.{Decimal}
use Rattle.np_words.specs.Written.{is_small_name, is_free_name, is_decimal}
use Rattle.np_words.specs.Text.{decimal_text}

-- ---- words

-- the word with this text, where it is one
abbrev pub word_if : Bool → Place → List ℕ → Option Word
word_if good place text = if good then Some (record { text = text; place = place }) else None

-- the name that the lexeme is
abbrev pub name_of : Place → Lexeme → Option Word
name_of place lexeme = word_if (same_kind lexeme.kind Name && is_free_name lexeme.text) place lexeme.text

-- the word after the first byte
abbrev pub word_after : ℕ → Place → List ℕ → Option Word
word_after byte place [] = None
word_after byte place (b ∷ text) = word_if (b == byte && is_small_name text) place text

-- the variable that the lexeme is
abbrev pub variable_of : Place → Lexeme → Option Word
variable_of place lexeme = if same_kind lexeme.kind Variable then word_after 63 place lexeme.text else None

-- the keyword that the lexeme is
abbrev pub requirement_of : Place → Lexeme → Option Word
requirement_of place lexeme = if same_kind lexeme.kind Keyword then word_after 58 place lexeme.text else None

unfoldable pub name : Reader Word
name = token_by name_of

unfoldable pub variable : Reader Word
variable = token_by variable_of

unfoldable pub requirement : Reader Word
requirement = token_by requirement_of

-- a name or a variable
unfoldable pub identifier : Reader Ident
identifier = either_by variable_of (λ w. made (λ (u : Unit {0}). ident.Variable w) (pure tt)) (made (λ w. ident.Name w) name)

-- ---- numbers

-- whether the text begins with `-`
abbrev pub is_negative : List ℕ → Bool
is_negative [] = false
is_negative (b ∷ text) = b == 45

-- the text after its sign
abbrev pub unsigned_in : List ℕ → List ℕ
unsigned_in [] = []
unsigned_in (b ∷ text) = if b == 45 then text else b ∷ text

-- the text after its first byte, where it has one
abbrev pub part_in : List ℕ → Option (List ℕ)
part_in [] = None
part_in (b ∷ text) = Some text

-- the sign, the leading digits, and what follows the byte after them
abbrev pub parts_of : Place → Bool → List ℕ → Decimal
parts_of place negative unsigned = record {
  negative = negative;
  whole = take (prefix_len is_digit unsigned) unsigned;
  part = part_in (drop (prefix_len is_digit unsigned) unsigned);
  place = place;
}

unfoldable pub parts_in : Place → List ℕ → Decimal
parts_in place text = parts_of place (is_negative text) (unsigned_in text)

-- the number where it has this text
abbrev pub decimal_if : List ℕ → Decimal → Option Decimal
decimal_if text d = if is_decimal d && bytes_eq (decimal_text d) text then Some d else None

-- the number with this text
abbrev pub decimal_of : Place → List ℕ → Option Decimal
decimal_of place text = decimal_if text (parts_in place text)

-- the number that the lexeme is
abbrev pub number_of : Place → Lexeme → Option Decimal
number_of place lexeme = if same_kind lexeme.kind Number then decimal_of place lexeme.text else None

unfoldable pub number : Reader Decimal
number = token_by number_of
