use Rattle.np_lex.specs.Lexers.{items_left}
use Rattle.np_syntax.proofs.ActionLexing.{parameters_come}
use Rattle.np_syntax.proofs.read.actions.given_parameters.Goals as goal

pub returns-then-take_keyword : goal.returns-then-take_keyword
returns-then-take_keyword c =
    parameters_come c.args.lexer.now c.take_keyword.new.lexer (items_left c.some_parameters.new.lexer) c.some_parameters.result (c.take_keyword.ensures.taken c.if-take_keyword.true) c.some_parameters.ensures
