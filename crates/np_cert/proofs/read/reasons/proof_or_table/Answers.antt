use Rattle.std.proofs.Common.{subst, sym}
use Rattle.np_lex.specs.Lexers.{items_left}
use Rattle.np_read.specs.ItemReaders.{Outcome}
use Rattle.np_read.specs.ItemAnswers.{Gives}
use Rattle.np_cert.specs.declared.certificate.Why.{Why}
use Rattle.np_cert.proofs.ReadingChoices.{proof_taken, proof_left}
use Rattle.np_cert.proofs.read.reasons.proof_or_table.Goals as goal

pub returns-then-take_name : goal.returns-then-take_name
returns-then-take_name c =
    subst (λ (x : Outcome Why). Gives (λ (r : Why). r) (items_left c.proof_number.new.lexer) c.proof_number.result x)
    (sym (proof_taken c.args.lexer.now c.take_name.new.self (c.take_name.ensures.taken c.if-take_name.true))) c.proof_number.ensures

pub returns : goal.returns
returns c =
    subst (λ (x : Outcome Why). Gives (λ (r : Why). r) (items_left c.by_table.new.lexer) c.by_table.result x)
    (sym (proof_left c.args.lexer.now c.take_name.new.self (c.take_name.ensures.other c.if-take_name.false))) c.by_table.ensures
