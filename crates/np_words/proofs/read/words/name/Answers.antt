use Rattle.std.proofs.Common.{subst, sym, ◌∙◌, ap}
use Rattle.np_lex.specs.Tokens.{lower}
use Rattle.np_model.specs.Names.{is_reserved}
use Rattle.np_read.specs.Takes.{TakesAt, lexeme}
use Rattle.np_words.proofs.WordLexing.{name_read, name_refused, name_missing}
use Rattle.np_words.proofs.read.words.name.Goals as goal

pub returns-in_default : goal.returns-in_default
returns-in_default c = name_missing c.args.lexer.now c.take_kind.new.lexer c.in_default.ensures.other

pub returns-then-is_reserved : goal.returns-then-is_reserved
returns-then-is_reserved c =
    let found = c.in-Some.found in
    name_refused c.args.lexer.now c.take_kind.new.lexer found.text.now found.place c.in_ok-word.word c.in-Some.ensures.token
    (subst (λ kind. TakesAt c.args.lexer.now c.take_kind.new.lexer (lexeme kind (lower found.text.now)) found.place) c.in-Some.ensures.kind c.in-Some.ensures.taken)
    c.in_ok-word.ensures.word (sym (ap is_reserved c.as_str.ensures) ∙ sym c.is_reserved.ensures ∙ c.if-is_reserved.true)

pub returns : goal.returns
returns c =
    let found = c.in-Some.found in
    name_read c.args.lexer.now c.take_kind.new.lexer found.text.now found.place c.in_ok-word.word c.in-Some.ensures.token
    (subst (λ kind. TakesAt c.args.lexer.now c.take_kind.new.lexer (lexeme kind (lower found.text.now)) found.place) c.in-Some.ensures.kind c.in-Some.ensures.taken)
    c.in_ok-word.ensures.word (sym (ap is_reserved c.as_str.ensures) ∙ sym c.is_reserved.ensures ∙ c.if-is_reserved.false)
