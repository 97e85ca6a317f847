use Rattle.std.proofs.Common.{Ok, ap, ◌∙◌}
use Rattle.std.proofs.lemmas.Result.{err_from_is_err_and}
use Rattle.np_lex.specs.Lexers.{items_left}
use Rattle.np_read.specs.ItemReaders.{Outcome, and_then}
use Rattle.np_words.specs.declared.word.Word.{Word}
use Rattle.np_words.specs.declared.expr.Expr.TheVariants as e
use Rattle.np_words.specs.ReadingForm.{name}
use Rattle.np_words.specs.ExprForm.{plain}
use Rattle.np_words.proofs.ExprLexing.{plain_number, plain_name}
use Rattle.np_words.proofs.WordLexing.{made_stops}
use Rattle.np_words.proofs.read.exprs.plain.Goals as goal

pub returns-in-Ok : goal.returns-in-Ok
returns-in-Ok c = plain_number (items_left c.args.lexer.now) (items_left c.number.new.lexer) c.in-Ok.value c.in-Ok.ensures

pub returns-in_err-function : goal.returns-in_err-function
returns-in_err-function c =
    let p = err_from_is_err_and c.from_residual.result c.from_residual.ensures.1 in
    rw (p.1, p.2)
    (made_stops (λ w. e.Bare w) c.in_err-function.field-0.0 (items_left c.name.new.lexer) (name (items_left c.number.new.lexer)) (plain (items_left c.args.lexer.now))
    (plain_name (items_left c.args.lexer.now) (items_left c.number.new.lexer) (rw c.in-Err-Next.field-0-is at c.in-Err-Next.ensures)) c.in_err-function.ensures)

pub returns : goal.returns
returns c =
    plain_name (items_left c.args.lexer.now) (items_left c.number.new.lexer) (rw c.in-Err-Next.field-0-is at c.in-Err-Next.ensures)
    ∙ ap (λ (x : Outcome Word). and_then x (λ w last. Ok (e.Bare w, last))) c.in_ok-function.ensures
