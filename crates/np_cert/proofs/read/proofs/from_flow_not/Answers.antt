use Rattle.std.proofs.Common.{subst, sym}
use Rattle.np_lex.specs.Lexers.{items_left}
use Rattle.np_read.specs.ItemReaders.{Outcome}
use Rattle.np_read.specs.ItemAnswers.{Gives}
use Rattle.np_count.specs.declared.proof.Row.{Row}
use Rattle.np_cert.proofs.ReadingChoices.{flow_not_taken, flow_not_left}
use Rattle.np_cert.proofs.read.proofs.from_flow_not.Goals as goal

pub returns-then-take_name : goal.returns-then-take_name
returns-then-take_name c =
    subst (λ (x : Outcome Row). Gives (λ (r : Row). r) (items_left c.flow_not.new.lexer) c.flow_not.result x)
    (sym (flow_not_taken c.args.lexer.now c.take_name.new.self (c.take_name.ensures.taken c.if-take_name.true))) c.flow_not.ensures

pub returns : goal.returns
returns c =
    subst (λ (x : Outcome Row). Gives (λ (r : Row). r) (items_left c.from_floor.new.lexer) c.from_floor.result x)
    (sym (flow_not_left c.args.lexer.now c.take_name.new.self (c.take_name.ensures.other c.if-take_name.false))) c.from_floor.ensures
