use Rattle.np_lex.specs.Lexers.{items_left}
use Rattle.np_syntax.proofs.ActionLexing.{condition_comes}
use Rattle.np_syntax.proofs.read.actions.given_condition.Goals as goal

pub returns-then-take_keyword : goal.returns-then-take_keyword
returns-then-take_keyword c =
    condition_comes c.args.lexer.now c.take_keyword.new.lexer (items_left c.some_condition.new.lexer) c.some_condition.result (c.take_keyword.ensures.taken c.if-take_keyword.true) c.some_condition.ensures
