use Rattle.std.proofs.Common.{◌≡◌, length}
use Rattle.np_lex.specs.Lexers.{items_left}
use Rattle.np_read.specs.ItemReaders.{row}
use Rattle.np_cert.specs.ReadingForm.{integer}
use Rattle.np_read.proofs.ItemLexing.{with_front}
use Rattle.np_cert.proofs.read.parts.values_to_right.Given as goal

abbrev pub invariant-row : goal.invariant-row
invariant-row l = with_front l.gathered.items (row integer (items_left l.lexer)) ≡ row integer (items_left l.fn.lexer)

abbrev pub decreases-row : goal.decreases-row
decreases-row l = length (items_left l.lexer)
