-- How the text of a plan is read.
use Rattle.std.specs.Prelude.{ℕ, zero, suc, Bool, true, false, not, List, [], ◌∷◌, length, Option, None, Some, is_some, if◌then◌else◌, option_and_then, codes}
use Rattle.np_lex.specs.declared.token.Kind.TheVariants.{Colon}
use Rattle.np_lex.specs.declared.token.Place.{Place}
use Rattle.np_lex.specs.Tokens.{Lexeme, Item, left}
use Rattle.np_read.specs.ItemReaders.{Reader, pure, refuse, by_next, says, wanted, ended, expect, before, both, made, further, row}
use Rattle.np_read.specs.PlacedReaders.{token_by, placed}
use Rattle.np_words.specs.declared.word.Decimal.{Decimal}
use Rattle.np_words.specs.declared.word.Word.{Word}
use Rattle.np_words.specs.ReadingForm.{name, number_of}
use Rattle.np_plan.specs.declared.plan.PlanLine.{PlanLine}
use Rattle.np_plan.specs.declared.plan.PlanText.{PlanText}

-- ---- up to the end of a text

-- nothing more at the end of the text, with the end; else the other reader
unfoldable pub end_or : {A : Type 0} → Reader (List A) → Reader (List A)
end_or other = by_next (λ item. ended item.piece) (λ _. pure []) other

-- values up to the end, at most so many
abbrev pub turns_to_end : {A : Type 0} → ℕ → Reader A → Reader (List A)
turns_to_end zero reader = end_or refuse
turns_to_end (suc most) reader = end_or (further reader (turns_to_end most reader))

-- values up to the end
unfoldable pub to_end : {A : Type 0} → Reader A → Reader (List A)
to_end reader items = turns_to_end (length items) reader items

-- ---- lines

-- `:`
abbrev pub colon : Lexeme
colon = record { kind = Colon; text = codes ":" }

-- the number, where it has no sign
abbrev pub if_unsigned : Decimal → Option Decimal
if_unsigned d = if d.negative then None else Some d

-- the number without a sign that the lexeme is
abbrev pub unsigned_of : Place → Lexeme → Option Decimal
unsigned_of place lexeme = option_and_then if_unsigned (number_of place lexeme)

unfoldable pub unsigned : Reader Decimal
unsigned = token_by unsigned_of

-- a stamp and its colon
unfoldable pub stamp : Reader Decimal
stamp = before unsigned (expect colon)

-- a stamp where lines have one
abbrev pub stamp_if : Bool → Reader (Option Decimal)
stamp_if true = made (λ d. Some d) stamp
stamp_if false = pure None

-- (action object ..)
unfoldable pub call : Reader (Place × (Word × List Word))
call = both (placed left) (both name (row name))

abbrev pub line_of : Option Decimal × (Place × (Word × List Word)) → PlanLine
line_of x = record { stamp = x.0; place = x.1.0; action = x.1.1.0; objects = x.1.1.1 }

-- a line, with a stamp or without
unfoldable pub line : Bool → Reader PlanLine
line stamped = made line_of (both (stamp_if stamped) call)

-- ---- a whole text

-- whether an opening bracket is the first item
abbrev pub begins_with_left : List Item → Bool
begins_with_left [] = false
begins_with_left (item ∷ items) = is_some (says (wanted left) item.piece)

-- the lines of a text: they have stamps where no bracket is the first item
unfoldable pub lines : Reader (List PlanLine)
lines items = to_end (line (not (begins_with_left items))) items

abbrev pub text_of : List PlanLine → PlanText
text_of ls = record { lines = ls }

unfoldable pub plan : Reader PlanText
plan = made text_of lines
