use Rattle.std.proofs.Common.{◌≡◌, ◌+◌, ◌*◌, length}
use Rattle.np_lex.specs.Lexers.{items_left}
use Rattle.np_read.specs.ItemReaders.{row}
use Rattle.np_conditions.specs.ConditionForm.{condition}
use Rattle.np_read.proofs.ItemLexing.{with_front}
use Rattle.np_conditions.proofs.read.conditions.+condition.Given as goal

abbrev pub decreases-parts : goal.decreases-parts
decreases-parts l = 6 * l.depth

abbrev pub decreases-all_of : goal.decreases-all_of
decreases-all_of l = 6 * l.depth + 1

abbrev pub decreases-from_and : goal.decreases-from_and
decreases-from_and l = 6 * l.depth + 2

abbrev pub decreases-in_bracket : goal.decreases-in_bracket
decreases-in_bracket l = 6 * l.depth + 3

abbrev pub decreases-condition : goal.decreases-condition
decreases-condition l = 6 * l.depth + 4

abbrev pub decreases-conditions_to_right : goal.decreases-conditions_to_right
decreases-conditions_to_right l = 6 * l.depth + 5

abbrev pub invariant-conditions_to_right-row : goal.invariant-conditions_to_right-row
invariant-conditions_to_right-row l = with_front l.found (row (condition l.depth) (items_left l.lexer)) ≡ row (condition l.depth) (items_left l.fn.lexer)

abbrev pub decreases-conditions_to_right-row : goal.decreases-conditions_to_right-row
decreases-conditions_to_right-row l = length (items_left l.lexer)
