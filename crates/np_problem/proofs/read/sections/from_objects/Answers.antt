use Rattle.np_lex.specs.Lexers.{items_left}
use Rattle.np_problem.proofs.SectionLexing.{objects_taken}
use Rattle.np_problem.proofs.read.sections.from_objects.Goals as goal

pub returns-in-Some : goal.returns-in-Some
returns-in-Some c =
    objects_taken c.args.lexer.now c.take_token.new.lexer (items_left c.objects_at.new.lexer) c.objects_at.result c.in-Some.place c.in-Some.ensures.taken c.objects_at.ensures
