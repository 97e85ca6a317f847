use Rattle.std.proofs.Common.{◌≡◌, ◌∷◌, ◌+◌, ◌*◌, length}
use Rattle.np_lex.specs.Lexers.{items_left}
use Rattle.np_read.specs.ItemReaders.{made, further, row}
use Rattle.np_words.specs.ExprForm.{expr}
use Rattle.np_read.proofs.ItemLexing.{with_front}
use Rattle.np_words.proofs.read.exprs.+expr.Given as goal

abbrev pub decreases-expr : goal.decreases-expr
decreases-expr l = 9 * l.depth

abbrev pub decreases-last : goal.decreases-last
decreases-last l = 9 * l.depth + 1

abbrev pub decreases-maybe_last : goal.decreases-maybe_last
decreases-maybe_last l = 9 * l.depth + 2

abbrev pub decreases-further_parts : goal.decreases-further_parts
decreases-further_parts l = 9 * l.depth + 1

abbrev pub decreases-two_parts : goal.decreases-two_parts
decreases-two_parts l = 9 * l.depth + 2

abbrev pub decreases-difference : goal.decreases-difference
decreases-difference l = 9 * l.depth + 3

abbrev pub decreases-quotient : goal.decreases-quotient
decreases-quotient l = 9 * l.depth + 3

abbrev pub decreases-sum : goal.decreases-sum
decreases-sum l = 9 * l.depth + 3

abbrev pub decreases-product : goal.decreases-product
decreases-product l = 9 * l.depth + 3

abbrev pub decreases-from_slash : goal.decreases-from_slash
decreases-from_slash l = 9 * l.depth + 4

abbrev pub decreases-from_star : goal.decreases-from_star
decreases-from_star l = 9 * l.depth + 5

abbrev pub decreases-from_plus : goal.decreases-from_plus
decreases-from_plus l = 9 * l.depth + 6

abbrev pub decreases-in_bracket : goal.decreases-in_bracket
decreases-in_bracket l = 9 * l.depth + 7

abbrev pub invariant-further_parts-row : goal.invariant-further_parts-row
invariant-further_parts-row l = with_front l.found (row (expr l.depth) (items_left l.lexer)) ≡ made (λ more. l.fn.first ∷ more) (further (expr l.depth) (row (expr l.depth))) (items_left l.fn.lexer)

abbrev pub decreases-further_parts-row : goal.decreases-further_parts-row
decreases-further_parts-row l = length (items_left l.lexer)
