use Rattle.std.proofs.Common.{length}
use Rattle.np_lex.specs.Tokens.{items_of}
use Rattle.np_lex.specs.Lexers.{items_left}
use Rattle.np_words.proofs.WideItems.{Passed}
use Rattle.np_words.proofs.read.wide.first_wide.Given as goal

abbrev pub invariant-tokens : goal.invariant-tokens
invariant-tokens l = Passed (items_of l.fn.bytes) (items_left l.lexer)

abbrev pub decreases-tokens : goal.decreases-tokens
decreases-tokens l = length (items_left l.lexer)
