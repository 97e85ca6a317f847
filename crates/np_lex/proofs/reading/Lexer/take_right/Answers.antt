use Rattle.std.proofs.Common.{sym, ◌∙◌, true≢false}
use Rattle.np_lex.specs.Lexers.{bytes_of}
use Rattle.np_lex.proofs.Fronts.{takes_right, leaves_right}
use Rattle.np_lex.proofs.reading.Lexer.take_right.Goals as goal

pub returns-clause-bytes : goal.returns-clause-bytes
unfolding bytes_of
returns-clause-bytes c = λ i. ((c.take_byte.ensures.bytes) i).now

pub returns-clause-taken : goal.returns-clause-taken
returns-clause-taken c = λ found.
    takes_right c.args.self.now c.take_byte.new.self (c.take_byte.ensures.next.0 found) c.take_byte.ensures.bytes (c.take_byte.ensures.taken found)

pub returns-clause-other : goal.returns-clause-other
returns-clause-other c = λ absent. leaves_right c.args.self.now c.take_byte.new.self (λ next. true≢false (sym (c.take_byte.ensures.next.1 next) ∙ absent)) (c.take_byte.ensures.stays absent)
