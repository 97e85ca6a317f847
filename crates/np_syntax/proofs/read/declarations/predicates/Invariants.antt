use Rattle.std.proofs.Common.{◌≡◌, length}
use Rattle.np_lex.specs.Lexers.{items_left}
use Rattle.np_read.specs.ItemReaders.{row}
use Rattle.np_syntax.specs.DomainForm.{declared}
use Rattle.np_read.proofs.ItemLexing.{with_front}
use Rattle.np_syntax.proofs.read.declarations.predicates.Given as goal

abbrev pub invariant-row : goal.invariant-row
invariant-row l = with_front l.found (row declared (items_left l.lexer)) ≡ row declared (items_left l.fn.lexer)

abbrev pub decreases-row : goal.decreases-row
decreases-row l = length (items_left l.lexer)
