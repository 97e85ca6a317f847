use Rattle.np_lex.specs.Lexers.{items_left}
use Rattle.np_problem.proofs.SectionLexing.{requirements_taken}
use Rattle.np_problem.proofs.read.sections.from_requirements.Goals as goal

pub returns-in-Some : goal.returns-in-Some
returns-in-Some c =
    requirements_taken c.args.lexer.now c.take_token.new.lexer (items_left c.requirements_at.new.lexer) c.requirements_at.result c.in-Some.place c.in-Some.ensures.taken c.requirements_at.ensures
