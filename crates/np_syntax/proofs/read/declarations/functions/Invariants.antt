use Rattle.std.proofs.Common.{◌≡◌, ◌++◌, map, length}
use Rattle.np_lex.specs.Lexers.{items_left}
use Rattle.np_read.specs.ItemReaders.{expect}
use Rattle.np_words.specs.TailedRows.{tailed_row}
use Rattle.np_words.specs.Text.{minus}
use Rattle.np_syntax.specs.DomainForm.{declared, number_word, numbered, functions}
use Rattle.np_words.proofs.TailedLexing.{from_state}
use Rattle.np_syntax.proofs.read.declarations.functions.Given as goal

abbrev pub invariant-row : goal.invariant-row
invariant-row l = from_state (λ found more. found ++ map numbered more) l.found (tailed_row declared minus (expect number_word) (items_left l.lexer)) ≡ functions (items_left l.fn.lexer)

abbrev pub decreases-row : goal.decreases-row
decreases-row l = length (items_left l.lexer)
