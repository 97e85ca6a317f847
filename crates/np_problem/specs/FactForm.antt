-- How facts of `:init` are read.
use Rattle.std.specs.Prelude.{Bool, true, false, List, [], codes}
use Rattle.np_lex.specs.Tokens.{left, named}
use Rattle.np_problem.specs.declared.problem.Fact.{Fact}
use Rattle.np_problem.specs.declared.problem.Fact.TheVariants as f
use Rattle.np_read.specs.ItemReaders.{Reader, expect, either, after, both, made, row}
use Rattle.np_words.specs.declared.word.Decimal.{Decimal}
use Rattle.np_words.specs.declared.word.Word.{Word}
use Rattle.np_conditions.specs.ConditionForm.{closed}
use Rattle.np_words.specs.ReadingForm.{name, number}
use Rattle.np_words.specs.Text.{operator_lexeme}

-- a name and names, and the bracket
unfoldable pub names : Reader (Word × List Word)
names = both name (row name)

-- what starts with a value: a name, its arguments, and whether the name is alone
abbrev pub Start : Type 0
Start = Word × List Word × Bool

unfoldable pub bare_start : Reader Start
bare_start = made (λ w. (w, [], true)) name

unfoldable pub called_start : Reader Start
called_start = made (λ x. (x.0, x.1, false)) names

unfoldable pub start : Reader Start
start = either left called_start bare_start

-- a number, and the bracket
unfoldable pub last_number : Reader Decimal
last_number = closed number

-- ---- what a fact's bracket encloses: the kinds, each with those that are tried after it

unfoldable pub some_atom : Reader Fact
some_atom = made (λ x. f.Atom x.0 x.1) names

unfoldable pub value : Reader Fact
value = made (λ x. f.Value x.0.0 x.0.1 x.0.2 x.1) (both start last_number)

unfoldable pub from_value : Reader Fact
from_value = either (operator_lexeme (codes "=")) value some_atom

-- an atom that `not` encloses, and both closing brackets
unfoldable pub not_atom : Reader Fact
not_atom = made (λ x. f.NotAtom x.0 x.1) (after (expect left) (closed names))

unfoldable pub from_not : Reader Fact
from_not = either (named (codes "not")) not_atom from_value

unfoldable pub fact : Reader Fact
fact = after (expect left) from_not
