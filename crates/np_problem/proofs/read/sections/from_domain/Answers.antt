use Rattle.np_lex.specs.Lexers.{items_left}
use Rattle.np_problem.proofs.SectionLexing.{domain_taken}
use Rattle.np_problem.proofs.read.sections.from_domain.Goals as goal

pub returns-in-Some : goal.returns-in-Some
returns-in-Some c =
    domain_taken c.args.lexer.now c.take_token.new.lexer (items_left c.domain_at.new.lexer) c.domain_at.result c.in-Some.place c.in-Some.ensures.taken c.domain_at.ensures
