use Rattle.std.proofs.Common.{◌≡◌, length}
use Rattle.np_lex.specs.Lexers.{items_left}
use Rattle.np_read.specs.ItemReaders.{row}
use Rattle.np_words.specs.ReadingForm.{identifier}
use Rattle.np_read.proofs.ItemLexing.{with_front}
use Rattle.np_words.proofs.read.exprs.identifiers_to_right.Given as goal

abbrev pub invariant-row : goal.invariant-row
invariant-row l = with_front l.found (row identifier (items_left l.lexer)) ≡ row identifier (items_left l.fn.lexer)

abbrev pub decreases-row : goal.decreases-row
decreases-row l = length (items_left l.lexer)
