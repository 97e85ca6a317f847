use Rattle.std.proofs.Common.{subst}
use Rattle.np_lex.specs.Lexers.{items_left}
use Rattle.np_lex.specs.Tokens.{lower}
use Rattle.np_read.specs.Takes.{TakesAt, lexeme}
use Rattle.np_words.specs.ReadingForm.{number}
use Rattle.np_words.proofs.NumberLexing.{number_read, number_missing}
use Rattle.np_words.proofs.WordLexing.{gives_made}
use Rattle.np_words.proofs.read.numbers.number.Goals as goal

pub returns-in_default : goal.returns-in_default
returns-in_default c = number_missing c.args.lexer.now c.take_kind.new.lexer c.in_default.ensures.other

pub returns : goal.returns
returns c =
    let found = c.in-Some.found in
    gives_made (items_left c.take_kind.new.lexer) (number (items_left c.args.lexer.now)) c.parts_in.result
    (λ d is. number_read c.args.lexer.now c.take_kind.new.lexer found.text.now found.place d is c.in-Some.ensures.token
    (subst (λ kind. TakesAt c.args.lexer.now c.take_kind.new.lexer (lexeme kind (lower found.text.now)) found.place) c.in-Some.ensures.kind c.in-Some.ensures.taken))
    c.parts_in.ensures.number c.parts_in.ensures.memory
