-- The parts of a domain: their text, which of them have one, and what they are without places.
use Rattle.std.specs.Prelude.{Bool, true, false, List, codes}
use Rattle.np_lex.specs.declared.token.Place.{Place}
use Rattle.np_lex.specs.Tokens.{Lexeme}
use Rattle.np_syntax.specs.declared.domain.Declared.{Declared}
use Rattle.np_words.specs.declared.word.ListKind.TheVariants.{Variables}
use Rattle.np_words.specs.Bare.{bare_word, bare_groups}
use Rattle.np_words.specs.Text.{Printer, left, operator, fixed_name, name, groups}
use Rattle.np_words.specs.Written.{IsName, AreGroups}

-- ---- declarations

module _ {T : Type 0} (token : List Place → Lexeme → T) where
  -- a name and parameters, in brackets
  abbrev pub declared : Declared → Printer T
  declared d rest = left token (name token d.name (groups token Variables d.parameters rest))

  -- `- number`, where it is written
  abbrev pub number_mark : Bool → Printer T
  number_mark true rest = operator token (codes "-") (fixed_name token (codes "number") rest)
  number_mark false rest = rest

  -- a function, and whether `- number` follows it
  abbrev pub function : Declared × Bool → Printer T
  function f rest = declared f.0 (number_mark f.1 rest)

abbrev pub IsDeclared : Declared → Type 0
IsDeclared d = IsName d.name × AreGroups Variables d.parameters

abbrev pub IsFunction : Declared × Bool → Type 0
IsFunction f = IsDeclared f.0

abbrev pub bare_declared : Declared → Declared
bare_declared d = record { name = bare_word d.name; parameters = bare_groups d.parameters }

abbrev pub bare_function : Declared × Bool → Declared × Bool
bare_function f = (bare_declared f.0, f.1)
