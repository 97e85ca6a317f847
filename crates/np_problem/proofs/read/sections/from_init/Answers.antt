use Rattle.np_lex.specs.Lexers.{items_left}
use Rattle.np_problem.proofs.SectionLexing.{init_taken}
use Rattle.np_problem.proofs.read.sections.from_init.Goals as goal

pub returns-in-Some : goal.returns-in-Some
returns-in-Some c =
    init_taken c.args.lexer.now c.take_token.new.lexer (items_left c.init_at.new.lexer) c.init_at.result c.in-Some.place c.in-Some.ensures.taken c.init_at.ensures
