-- Facts of `:init`: their text, which of them have one, and what they are without places.
use Rattle.std.specs.Prelude.{◌≡◌, Bool, true, false, List, [], map, All, codes}
use Rattle.np_lex.specs.declared.token.Place.{Place}
use Rattle.np_lex.specs.Tokens.{Lexeme}
use Rattle.np_problem.specs.declared.problem.Fact.{Fact}
use Rattle.np_problem.specs.declared.problem.Fact.TheVariants as f
use Rattle.np_read.specs.Marks.{each}
use Rattle.np_words.specs.declared.word.Word.{Word}
use Rattle.np_words.specs.Bare.{bare_word, bare_decimal}
use Rattle.np_words.specs.Text.{Printer, left, right, fixed_name, operator, name, number}
use Rattle.np_words.specs.Written.{IsName, IsDecimal}

-- ---- the text

module _ {T : Type 0} (token : List Place → Lexeme → T) where
  -- a name and names, up to the closing bracket
  abbrev pub names : Word → List Word → Printer T
  names w words rest = name token w (each (name token) words (right token rest))

  -- what starts with a value: a name alone where the flag is true
  abbrev pub start : Word → List Word → Bool → Printer T
  start w words true rest = name token w rest
  start w words false rest = left token (names w words rest)

  -- a fact after its bracket
  abbrev pub fact_inside : Fact → Printer T
  fact_inside (f.Atom w words) rest = names w words rest
  fact_inside (f.NotAtom w words) rest = fixed_name token (codes "not") (left token (names w words (right token rest)))
  fact_inside (f.Value w words alone d) rest = operator token (codes "=") (start w words alone (number token d (right token rest)))

  abbrev pub fact : Fact → Printer T
  fact v rest = left token (fact_inside v rest)

-- ---- which have a text

abbrev pub AreNames : Word → List Word → Type 0
AreNames w words = IsName w × All IsName words

-- a name alone has no arguments
abbrev pub IsStart : Word → List Word → Bool → Type 0
IsStart w words true = IsName w × (words ≡ [])
IsStart w words false = AreNames w words

-- a fact whose number may have any number of digits
abbrev pub IsFact : Fact → Type 0
IsFact (f.Atom w words) = AreNames w words
IsFact (f.NotAtom w words) = AreNames w words
IsFact (f.Value w words alone d) = IsStart w words alone × IsDecimal d

-- ---- the same without places

abbrev pub bare_fact : Fact → Fact
bare_fact (f.Atom w words) = f.Atom (bare_word w) (map bare_word words)
bare_fact (f.NotAtom w words) = f.NotAtom (bare_word w) (map bare_word words)
bare_fact (f.Value w words alone d) = f.Value (bare_word w) (map bare_word words) alone (bare_decimal d)
