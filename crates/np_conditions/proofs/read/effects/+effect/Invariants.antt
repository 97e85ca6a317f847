use Rattle.std.proofs.Common.{◌≡◌, ◌+◌, ◌*◌, length}
use Rattle.np_lex.specs.Lexers.{items_left}
use Rattle.np_read.specs.ItemReaders.{row}
use Rattle.np_conditions.specs.EffectForm.{effect}
use Rattle.np_read.proofs.ItemLexing.{with_front}
use Rattle.np_conditions.proofs.read.effects.+effect.Given as goal

abbrev pub decreases-parts : goal.decreases-parts
decreases-parts l = 6 * l.depth

abbrev pub decreases-all_of : goal.decreases-all_of
decreases-all_of l = 6 * l.depth + 1

abbrev pub decreases-from_and : goal.decreases-from_and
decreases-from_and l = 6 * l.depth + 2

abbrev pub decreases-in_bracket : goal.decreases-in_bracket
decreases-in_bracket l = 6 * l.depth + 3

abbrev pub decreases-effect : goal.decreases-effect
decreases-effect l = 6 * l.depth + 4

abbrev pub decreases-effects_to_right : goal.decreases-effects_to_right
decreases-effects_to_right l = 6 * l.depth + 5

abbrev pub invariant-effects_to_right-row : goal.invariant-effects_to_right-row
invariant-effects_to_right-row l = with_front l.found (row (effect l.depth) (items_left l.lexer)) ≡ row (effect l.depth) (items_left l.fn.lexer)

abbrev pub decreases-effects_to_right-row : goal.decreases-effects_to_right-row
decreases-effects_to_right-row l = length (items_left l.lexer)
