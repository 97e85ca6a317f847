-- The text of a plan: its tokens, which values have one, and what they are without places.
use Rattle.std.specs.Prelude.{◌≡◌, ℕ, Bool, true, false, ◌⊎◌, List, [], ◌∷◌, All, map, Option, None, Some}
use Rattle.std.specs.Option.{option_map}
use Rattle.np_lex.specs.declared.token.Place.{Place}
use Rattle.np_lex.specs.Tokens as tokens
use Rattle.np_lex.specs.Tokens.{Lexeme, Item, items_of}
use Rattle.np_read.specs.Lexemes.{lexemes}
use Rattle.np_read.specs.Marks.{Mark, Fits, each}
use Rattle.np_words.specs.declared.word.Decimal.{Decimal}
use Rattle.np_words.specs.Bare.{nowhere, bare_word, bare_decimal}
use Rattle.np_words.specs.Text.{Printer, spelled, marked, right, name, number}
use Rattle.np_words.specs.Wide.{IsShortLexeme}
use Rattle.np_words.specs.Written.{IsName, IsDecimal}
use Rattle.np_plan.specs.declared.plan.PlanLine.{PlanLine}
use Rattle.np_plan.specs.declared.plan.PlanText.{PlanText}
use Rattle.np_plan.specs.PlanForm.{colon}

-- ---- tokens, before others, by what a token is made into

module _ {T : Type 0} (token : List Place → Lexeme → T) where
  -- a stamp and its colon, where there is one
  abbrev pub stamp : Option Decimal → Printer T
  stamp None rest = rest
  stamp (Some d) rest = number token d (token [] colon ∷ rest)

  -- stamp: (action object ..)
  abbrev pub line : PlanLine → Printer T
  line l rest = stamp l.stamp (token (l.place ∷ []) tokens.left ∷ name token l.action (each (name token) l.objects (right token rest)))

  abbrev pub plan : PlanText → Printer T
  plan p rest = each line p.lines rest

-- its lexemes, and its lexemes with the places that it keeps for them
abbrev pub plan_text : PlanText → List Lexeme
plan_text p = plan spelled p []

abbrev pub plan_marks : PlanText → List Mark
plan_marks p = plan marked p []

-- ---- which have a text, where a stamp may have any number of digits

-- a number without a sign
abbrev pub IsStamp : Decimal → Type 0
IsStamp d = IsDecimal d × (d.negative ≡ false)

-- a stamp where lines have one
abbrev pub IsStampIf : Bool → Option Decimal → Type 0
IsStampIf true None = ⊥
IsStampIf true (Some d) = IsStamp d
IsStampIf false s = s ≡ None

-- a line with a stamp, or one without
pub record IsLine (stamped : Bool) (l : PlanLine) : Type 0 where
  pub stamp : IsStampIf stamped l.stamp
  pub action : IsName l.action
  pub objects : All IsName l.objects

-- every line has a stamp, or none has
abbrev pub IsPlan : PlanText → Type 0
IsPlan p = All (IsLine true) p.lines ⊎ All (IsLine false) p.lines

-- ---- the same without places

abbrev pub bare_line : PlanLine → PlanLine
bare_line l = record { stamp = option_map bare_decimal l.stamp; place = nowhere; action = bare_word l.action; objects = map bare_word l.objects }

abbrev pub bare_plan : PlanText → PlanText
bare_plan p = record { lines = map bare_line p.lines }

-- ---- bytes

-- the bytes spell this value: their lexemes are its own, and no stamp has too many digits
pub record SpellsText (bytes : List ℕ) (p : PlanText) : Type 0 where
  pub is_plan : IsPlan p
  pub lexemes_are : lexemes bytes ≡ Some (plan_text p)
  pub short : All IsShortLexeme (plan_text p)

-- each place that the value keeps is that of its token in the bytes
pub record IsPlaced (bytes : List ℕ) (p : PlanText) : Type 0 where
  pub rest : List Item
  pub fits : Fits (items_of bytes) (plan_marks p) rest
