use Rattle.std.proofs.Common.{Some, Ok, ap, ◌∙◌}
use Rattle.std.proofs.lemmas.Result.{err_from_is_err_and}
use Rattle.np_lex.specs.Lexers.{items_left}
use Rattle.np_read.specs.ItemReaders.{Outcome, and_then}
use Rattle.np_words.specs.declared.word.Word.{Word}
use Rattle.np_words.specs.ReadingForm.{name}
use Rattle.np_words.specs.TailedRows.{tail_or_none}
use Rattle.np_words.specs.Text.{minus}
use Rattle.np_words.proofs.TailedLexing.{tail_comes, no_tail}
use Rattle.np_words.proofs.WordLexing.{made_stops}
use Rattle.np_syntax.proofs.read.lists.of_type.Goals as goal

pub returns-then-not-take_operator : goal.returns-then-not-take_operator
returns-then-not-take_operator c = no_tail minus name c.args.lexer.now c.take_operator.new.lexer (c.take_operator.ensures.other c.if-not-take_operator.true)

pub returns-in_err-of : goal.returns-in_err-of
returns-in_err-of c =
    let p = err_from_is_err_and c.from_residual.result c.from_residual.ensures.1 in
    rw (p.1, p.2)
    (made_stops (λ w. Some w) c.in_err-of.field-0.0 (items_left c.name.new.lexer) (name (items_left c.take_operator.new.lexer)) (tail_or_none minus name (items_left c.args.lexer.now))
    (tail_comes minus name c.args.lexer.now c.take_operator.new.lexer (c.take_operator.ensures.taken c.if-not-take_operator.false)) c.in_err-of.ensures)

pub returns : goal.returns
returns c =
    tail_comes minus name c.args.lexer.now c.take_operator.new.lexer (c.take_operator.ensures.taken c.if-not-take_operator.false)
    ∙ ap (λ (x : Outcome Word). and_then x (λ w last. Ok (Some w, last))) c.in_ok-of.ensures
