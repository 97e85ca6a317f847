use Rattle.std.proofs.Common.{◌≡◌, length}
use Rattle.np_lex.specs.Lexers.{items_left}
use Rattle.np_read.specs.ItemReaders.{further, row}
use Rattle.np_cert.specs.ReadingForm.{number}
use Rattle.np_read.proofs.ItemLexing.{with_front}
use Rattle.np_cert.proofs.read.proofs.numbers_to_right.Given as goal

abbrev pub invariant-row : goal.invariant-row
invariant-row l = with_front l.found (row number (items_left l.lexer)) ≡ further number (row number) (items_left l.fn.lexer)

abbrev pub decreases-row : goal.decreases-row
decreases-row l = length (items_left l.lexer)
