use Rattle.std.proofs.Common.{subst, ap, ◌∙◌, Ok}
use Rattle.std.proofs.lemmas.Result.{err_from_is_err_and}
use Rattle.np_words.specs.declared.word.Word.{Word}
use Rattle.np_words.specs.declared.word.Ident.TheVariants as ident
use Rattle.np_words.specs.ReadingForm.{name, identifier}
use Rattle.np_lex.specs.Tokens.{lower}
use Rattle.np_lex.specs.Lexers.{items_left}
use Rattle.np_read.specs.Takes.{TakesAt, lexeme}
use Rattle.np_read.specs.ItemReaders.{Outcome, and_then}
use Rattle.np_words.proofs.WordLexing.{identifier_variable, identifier_name, made_stops}
use Rattle.np_words.proofs.read.words.identifier.Goals as goal

pub returns-in-Some : goal.returns-in-Some
returns-in-Some c =
    let found = c.in-Some.found in
    identifier_variable c.args.lexer.now c.take_kind.new.lexer found.text.now found.place c.in_ok-word.word c.in_ok-word.ensures.word c.in-Some.ensures.token
    (subst (λ kind. TakesAt c.args.lexer.now c.take_kind.new.lexer (lexeme kind (lower found.text.now)) found.place) c.in-Some.ensures.kind c.in-Some.ensures.taken)

pub returns-in_err-word-2 : goal.returns-in_err-word-2
returns-in_err-word-2 c =
    let p = err_from_is_err_and c.from_residual-in_err-word-2.result c.from_residual-in_err-word-2.ensures.1 in
    rw (p.1, p.2)
    (made_stops (λ w. ident.Name w) c.in_err-word-2.field-0.0 (items_left c.name.new.lexer) (name (items_left c.take_kind.new.lexer)) (identifier (items_left c.args.lexer.now))
    (identifier_name c.args.lexer.now c.take_kind.new.lexer c.in_default.ensures.other) c.in_err-word-2.ensures)

pub returns : goal.returns
returns c =
    identifier_name c.args.lexer.now c.take_kind.new.lexer c.in_default.ensures.other
    ∙ ap (λ (x : Outcome Word). and_then x (λ w last. Ok (ident.Name w, last))) c.in_ok-word-2.ensures
