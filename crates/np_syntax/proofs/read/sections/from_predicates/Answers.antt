use Rattle.np_lex.specs.Lexers.{items_left}
use Rattle.np_syntax.proofs.SectionLexing.{predicates_taken}
use Rattle.np_syntax.proofs.read.sections.from_predicates.Goals as goal

pub returns-in-Some : goal.returns-in-Some
returns-in-Some c =
    predicates_taken c.args.lexer.now c.take_token.new.lexer (items_left c.predicates_at.new.lexer) c.predicates_at.result c.in-Some.place c.in-Some.ensures.taken c.predicates_at.ensures
