use Rattle.std.proofs.Common.{◌≡◌, length}
use Rattle.np_lex.specs.Lexers.{items_left}
use Rattle.np_read.proofs.ItemLexing.{with_front}
use Rattle.np_plan.specs.PlanForm.{to_end, line}
use Rattle.np_plan.proofs.read.lines.lines_to_end.Given as goal

abbrev pub invariant-lines : goal.invariant-lines
invariant-lines l = with_front l.found (to_end (line l.stamped) (items_left l.lexer)) ≡ to_end (line l.stamped) (items_left l.fn.lexer)

abbrev pub decreases-lines : goal.decreases-lines
decreases-lines l = length (items_left l.lexer)
