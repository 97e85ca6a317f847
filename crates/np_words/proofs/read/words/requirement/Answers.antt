use Rattle.std.proofs.Common.{subst}
use Rattle.np_lex.specs.Tokens.{lower}
use Rattle.np_read.specs.Takes.{TakesAt, lexeme}
use Rattle.np_words.proofs.WordLexing.{requirement_read, requirement_missing, gives_made}
use Rattle.np_words.specs.ReadingForm.{requirement}
use Rattle.np_lex.specs.Lexers.{items_left}
use Rattle.np_words.proofs.read.words.requirement.Goals as goal

pub returns-in_default : goal.returns-in_default
returns-in_default c = requirement_missing c.args.lexer.now c.take_kind.new.lexer c.in_default.ensures.other

pub returns : goal.returns
returns c =
    let found = c.in-Some.found in
    gives_made (items_left c.take_kind.new.lexer) (requirement (items_left c.args.lexer.now)) c.word_of.result
    (λ w is. requirement_read c.args.lexer.now c.take_kind.new.lexer found.text.now found.place w is c.in-Some.ensures.token
    (subst (λ kind. TakesAt c.args.lexer.now c.take_kind.new.lexer (lexeme kind (lower found.text.now)) found.place) c.in-Some.ensures.kind c.in-Some.ensures.taken))
    c.word_of.ensures.word c.word_of.ensures.memory
