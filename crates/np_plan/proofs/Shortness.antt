-- Where no lexeme of a plan's text has too many digits, each stamp has its value.
use Rattle.std.proofs.Common.{inl, inr, ◌≤◌, Bool, true, false, List, [], ◌∷◌, length, Option, None, Some}
use Rattle.std.specs.List.{All}
use Rattle.std.specs.Prelude.{IfSome}
use Rattle.std.proofs.lemmas.List.Elements.{All-nil, All-cons, All-head, All-tail}
use Rattle.np_lex.specs.Tokens.{Lexeme, left, right, named, numeral}
use Rattle.np_read.specs.Marks.{each}
use Rattle.np_words.specs.declared.read.wide.TheConstants.{MOST_DIGITS}
use Rattle.np_words.specs.declared.word.Decimal.{Decimal}
use Rattle.np_words.specs.declared.word.Word.{Word}
use Rattle.np_words.specs.Numbers.{digits_of}
use Rattle.np_words.specs.Text.{decimal_text, spelled}
use Rattle.np_words.specs.Text as words
use Rattle.np_words.specs.Wide.{IsShortLexeme}
use Rattle.np_words.proofs.Numbers.{short_digits}
use Rattle.np_plan.specs.declared.plan.PlanLine.{PlanLine}
use Rattle.np_plan.specs.declared.plan.PlanText.{PlanText}
use Rattle.np_plan.specs.PlanForm.{colon}
use Rattle.np_plan.specs.PlanText.{IsStampIf, IsLine, IsPlan, plan_text}
use Rattle.np_plan.specs.PlanText as text
use Rattle.np_plan.specs.Plans.{HasValue}

abbrev AreShort : List Lexeme → Type 0
AreShort ls = All IsShortLexeme ls

-- what follows is short where all is
names_rest : (ws : List Word) (rest : List Lexeme) → AreShort (each (words.name spelled) ws rest) → AreShort rest
names_rest [] rest h = h
names_rest (w ∷ ws) rest h = names_rest ws rest (All-tail IsShortLexeme (named w.text) (each (words.name spelled) ws rest) h)

abbrev call_text : PlanLine → List Lexeme → List Lexeme
call_text l rest = left ∷ words.name spelled l.action (each (words.name spelled) l.objects (right ∷ rest))

call_rest : (l : PlanLine) (rest : List Lexeme) → AreShort (call_text l rest) → AreShort rest
call_rest l rest h =
    let names = each (words.name spelled) l.objects (right ∷ rest) in
    All-tail IsShortLexeme right rest (names_rest l.objects (right ∷ rest) (All-tail IsShortLexeme (named l.action.text) names (All-tail IsShortLexeme left (named l.action.text ∷ names) h)))

stamp_rest : (s : Option Decimal) (rest : List Lexeme) → AreShort (text.stamp spelled s rest) → AreShort rest
stamp_rest None rest h = h
stamp_rest (Some d) rest h = All-tail IsShortLexeme colon rest (All-tail IsShortLexeme (numeral (decimal_text d)) (colon ∷ rest) h)

line_rest : (l : PlanLine) (rest : List Lexeme) → AreShort (text.line spelled l rest) → AreShort rest
line_rest l rest h = call_rest l rest (stamp_rest l.stamp (call_text l rest) h)

stamp_value : (stamped : Bool) (s : Option Decimal) (rest : List Lexeme) → IsStampIf stamped s → AreShort (text.stamp spelled s rest) → IfSome s (λ d. length (digits_of d) ≤ MOST_DIGITS)
stamp_value stamped None rest h short = tt
stamp_value true (Some d) rest h short = short_digits d h.0 (All-head IsShortLexeme (numeral (decimal_text d)) (colon ∷ rest) short)
stamp_value false (Some d) rest h short = absurd cc

lines_values : (stamped : Bool) (ls : List PlanLine) → All (IsLine stamped) ls → AreShort (each (text.line spelled) ls []) → All HasValue ls
lines_values stamped [] h short = All-nil HasValue
lines_values stamped (l ∷ ls) h short =
    All-cons HasValue l ls (stamp_value stamped l.stamp (call_text l (each (text.line spelled) ls [])) (All-head (IsLine stamped) l ls h).stamp short)
    (lines_values stamped ls (All-tail (IsLine stamped) l ls h) (line_rest l (each (text.line spelled) ls []) short))

pub values_of : (p : PlanText) → IsPlan p → AreShort (plan_text p) → All HasValue p.lines
values_of p (inl h) short = lines_values true p.lines h short
values_of p (inr h) short = lines_values false p.lines h short
