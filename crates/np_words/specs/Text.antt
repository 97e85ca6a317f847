-- The text of each value, before others: one list of tokens. What a token is made into is given, with the places that the value keeps for
-- it: mostly one or none. So the same printer says which lexemes spell a value, and where its places belong.
use Rattle.std.specs.Prelude.{ℕ, Bool, true, false, List, [], ◌∷◌, ◌++◌, Option, None, Some, codes}
use Rattle.np_lex.specs.declared.token.Kind.TheVariants as kind
use Rattle.np_lex.specs.declared.token.Place.{Place}
use Rattle.np_lex.specs.Tokens.{Lexeme, named, numeral}
use Rattle.np_lex.specs.Tokens as tokens
use Rattle.np_read.specs.Marks.{Mark, each}
use Rattle.np_words.specs.declared.word.Word.{Word}
use Rattle.np_words.specs.declared.word.Ident.{Ident}
use Rattle.np_words.specs.declared.word.Ident.TheVariants as ident
use Rattle.np_words.specs.declared.word.Decimal.{Decimal}
use Rattle.np_words.specs.declared.word.Group.{Group}
use Rattle.np_words.specs.declared.word.ListKind.{ListKind}
use Rattle.np_words.specs.declared.word.ListKind.TheVariants.{Names, Variables}

-- tokens of something before others
abbrev pub Printer : Type 0 → Type 0
Printer T = List T → List T

-- the lexemes of a keyword, a variable and an operator
abbrev pub keyword_lexeme : List ℕ → Lexeme
keyword_lexeme text = record { kind = kind.Keyword; text = 58 ∷ text }

abbrev pub variable_lexeme : List ℕ → Lexeme
variable_lexeme text = record { kind = kind.Variable; text = 63 ∷ text }

abbrev pub operator_lexeme : List ℕ → Lexeme
operator_lexeme text = record { kind = kind.Op; text = text }

-- `-`
abbrev pub minus : Lexeme
minus = operator_lexeme (codes "-")

-- the sign of a number, and its point with the digits after it
abbrev pub sign_text : Bool → List ℕ
sign_text true = codes "-"
sign_text false = []

abbrev pub part_text : Option (List ℕ) → List ℕ
part_text None = []
part_text (Some digits) = codes "." ++ digits

-- a number's text
abbrev pub decimal_text : Decimal → List ℕ
decimal_text d = sign_text d.negative ++ (d.whole ++ part_text d.part)

-- a token as its lexeme, and with the places that are kept for it
abbrev pub spelled : List Place → Lexeme → Lexeme
spelled places lexeme = lexeme

abbrev pub marked : List Place → Lexeme → Mark
marked places lexeme = record { lexeme = lexeme; places = places }

module _ {T : Type 0} (token : List Place → Lexeme → T) where
  -- tokens that keep no place
  abbrev pub left : Printer T
  left rest = token [] tokens.left ∷ rest

  abbrev pub right : Printer T
  right rest = token [] tokens.right ∷ rest

  abbrev pub fixed_name : List ℕ → Printer T
  fixed_name text rest = token [] (named text) ∷ rest

  abbrev pub operator : List ℕ → Printer T
  operator text rest = token [] (operator_lexeme text) ∷ rest

  -- a keyword that keeps no place, and one that keeps it
  abbrev pub keyword : List ℕ → Printer T
  keyword text rest = token [] (keyword_lexeme text) ∷ rest

  abbrev pub keyword_at : Place → List ℕ → Printer T
  keyword_at place text rest = token (place ∷ []) (keyword_lexeme text) ∷ rest

  -- a name, a variable, and a keyword as a word
  abbrev pub name : Word → Printer T
  name w rest = token (w.place ∷ []) (named w.text) ∷ rest

  abbrev pub variable : Word → Printer T
  variable w rest = token (w.place ∷ []) (variable_lexeme w.text) ∷ rest

  abbrev pub requirement : Word → Printer T
  requirement w rest = token (w.place ∷ []) (keyword_lexeme w.text) ∷ rest

  -- a name or a variable
  abbrev pub identifier : Ident → Printer T
  identifier (ident.Name w) = name w
  identifier (ident.Variable w) = variable w

  -- a number
  abbrev pub number : Decimal → Printer T
  number d rest = token (d.place ∷ []) (numeral (decimal_text d)) ∷ rest

  -- a name and arguments, in brackets
  abbrev pub call : Word → List Ident → Printer T
  call w idents rest = left (name w (each identifier idents (right rest)))

  -- a word of a typed list
  abbrev pub list_word : ListKind → Word → Printer T
  list_word Names = name
  list_word Variables = variable

  -- `- type`, where a type is given
  abbrev pub of_type : Option Word → Printer T
  of_type None rest = rest
  of_type (Some w) rest = operator (codes "-") (name w rest)

  -- words and their type
  abbrev pub group : ListKind → Group → Printer T
  group list_kind g rest = each (list_word list_kind) g.words (of_type g.of rest)

  -- a typed list, up to its closing bracket
  abbrev pub groups : ListKind → List Group → Printer T
  groups list_kind gs rest = each (group list_kind) gs (right rest)
