use Rattle.std.proofs.Common.{subst, sym}
use Rattle.np_lex.specs.Lexers.{items_left}
use Rattle.np_read.specs.ItemReaders.{Outcome}
use Rattle.np_read.specs.ItemAnswers.{Gives}
use Rattle.np_count.specs.declared.proof.Row.{Row}
use Rattle.np_cert.proofs.ReadingChoices.{floor_taken, floor_left}
use Rattle.np_cert.proofs.read.proofs.from_floor.Goals as goal

pub returns-then-take_name : goal.returns-then-take_name
returns-then-take_name c =
    subst (λ (x : Outcome Row). Gives (λ (r : Row). r) (items_left c.floor.new.lexer) c.floor.result x)
    (sym (floor_taken c.args.lexer.now c.take_name.new.self (c.take_name.ensures.taken c.if-take_name.true))) c.floor.ensures

pub returns : goal.returns
returns c =
    subst (λ (x : Outcome Row). Gives (λ (r : Row). r) (items_left c.from_cut.new.lexer) c.from_cut.result x)
    (sym (floor_left c.args.lexer.now c.take_name.new.self (c.take_name.ensures.other c.if-take_name.false))) c.from_cut.ensures
