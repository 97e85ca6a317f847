use Rattle.np_lex.specs.Lexers.{items_left}
use Rattle.np_syntax.proofs.SectionLexing.{functions_taken}
use Rattle.np_syntax.proofs.read.sections.from_functions.Goals as goal

pub returns-in-Some : goal.returns-in-Some
returns-in-Some c =
    functions_taken c.args.lexer.now c.take_token.new.lexer (items_left c.functions_at.new.lexer) c.functions_at.result c.in-Some.place c.in-Some.ensures.taken c.functions_at.ensures
