use Rattle.np_lex.specs.Lexers.{items_left}
use Rattle.np_problem.proofs.FactLexing.{start_called, start_alone}
use Rattle.np_problem.proofs.read.facts.start.Goals as goal

pub returns-then-take_left : goal.returns-then-take_left
returns-then-take_left c =
    start_called c.args.lexer.now c.take_left.new.self (items_left c.called_start.new.lexer) c.called_start.result (c.take_left.ensures.taken c.if-take_left.true) c.called_start.ensures

pub returns : goal.returns
returns c =
    start_alone c.args.lexer.now c.take_left.new.self (items_left c.bare_start.new.lexer) c.bare_start.result (c.take_left.ensures.other c.if-take_left.false) c.bare_start.ensures
