use Rattle.np_lex.specs.Lexers.{items_left}
use Rattle.np_syntax.proofs.SectionLexing.{constants_taken}
use Rattle.np_syntax.proofs.read.sections.from_constants.Goals as goal

pub returns-in-Some : goal.returns-in-Some
returns-in-Some c =
    constants_taken c.args.lexer.now c.take_token.new.lexer (items_left c.constants_at.new.lexer) c.constants_at.result c.in-Some.place c.in-Some.ensures.taken c.constants_at.ensures
