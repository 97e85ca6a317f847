use Rattle.np_lex.specs.Lexers.{items_left}
use Rattle.np_syntax.proofs.SectionLexing.{types_taken}
use Rattle.np_syntax.proofs.read.sections.from_types.Goals as goal

pub returns-in-Some : goal.returns-in-Some
returns-in-Some c =
    types_taken c.args.lexer.now c.take_token.new.lexer (items_left c.types_at.new.lexer) c.types_at.result c.in-Some.place c.in-Some.ensures.taken c.types_at.ensures
