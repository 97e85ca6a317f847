use Rattle.np_lex.specs.Lexers.{items_left}
use Rattle.np_problem.proofs.SectionLexing.{goal_taken}
use Rattle.np_problem.proofs.read.sections.from_goal.Goals as goal

pub returns-in-Some : goal.returns-in-Some
returns-in-Some c =
    goal_taken c.args.lexer.now c.take_token.new.lexer (items_left c.goal_at.new.lexer) c.goal_at.result c.in-Some.place c.in-Some.ensures.taken c.goal_at.ensures
