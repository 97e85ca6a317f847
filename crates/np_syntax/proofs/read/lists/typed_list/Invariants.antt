use Rattle.std.proofs.Common.{◌≡◌, length}
use Rattle.np_lex.specs.Lexers.{items_left}
use Rattle.np_words.specs.ReadingForm.{name}
use Rattle.np_words.specs.TailedRows.{tailed_row}
use Rattle.np_words.specs.Text.{minus}
use Rattle.np_syntax.specs.DomainForm.{list_word, groups_after, typed_list}
use Rattle.np_words.proofs.TailedLexing.{from_state}
use Rattle.np_syntax.proofs.read.lists.typed_list.Given as goal

abbrev pub invariant-list : goal.invariant-list
invariant-list l = from_state groups_after l.part (tailed_row (list_word l.fn.list_kind) minus name (items_left l.lexer)) ≡ typed_list l.fn.list_kind (items_left l.fn.lexer)

abbrev pub decreases-list : goal.decreases-list
decreases-list l = length (items_left l.lexer)
