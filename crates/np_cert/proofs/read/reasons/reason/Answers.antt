use Rattle.std.proofs.Common.{subst, sym}
use Rattle.np_lex.specs.Lexers.{items_left}
use Rattle.np_read.specs.ItemReaders.{Outcome}
use Rattle.np_read.specs.ItemAnswers.{Gives}
use Rattle.np_cert.specs.declared.certificate.Why.{Why}
use Rattle.np_cert.proofs.ReadingChoices.{expanded_taken, expanded_left}
use Rattle.np_cert.proofs.read.reasons.reason.Goals as goal

pub returns-then-take_name : goal.returns-then-take_name
returns-then-take_name c = expanded_taken c.args.lexer.now c.take_name.new.self (c.take_name.ensures.taken c.if-take_name.true)

pub returns : goal.returns
returns c =
    subst (λ (x : Outcome Why). Gives (λ (r : Why). r) (items_left c.long_reason.new.lexer) c.long_reason.result x)
    (sym (expanded_left c.args.lexer.now c.take_name.new.self (c.take_name.ensures.other c.if-take_name.false))) c.long_reason.ensures
