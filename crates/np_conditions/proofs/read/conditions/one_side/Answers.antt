use Rattle.std.proofs.Common.{Ok, ap, ◌∙◌}
use Rattle.std.proofs.lemmas.Result.{err_from_is_err_and}
use Rattle.np_lex.specs.Lexers.{items_left}
use Rattle.np_read.specs.ItemReaders.{Outcome, and_then}
use Rattle.np_conditions.specs.declared.condition.Side.TheVariants as side
use Rattle.np_words.specs.declared.expr.Expr.{Expr}
use Rattle.np_words.specs.ExprForm.{expr}
use Rattle.np_conditions.specs.ConditionForm.{one_side}
use Rattle.np_conditions.proofs.ConditionLexing.{side_variable, side_expr, side_placed}
use Rattle.np_words.proofs.WordLexing.{made_stops}
use Rattle.np_conditions.proofs.read.conditions.one_side.Goals as goal

pub returns-in-Ok : goal.returns-in-Ok
returns-in-Ok c = side_variable c.args.depth (items_left c.args.lexer.now) (items_left c.variable.new.lexer) c.in-Ok.word c.in-Ok.ensures

pub returns-in_err-value : goal.returns-in_err-value
returns-in_err-value c =
    let p = err_from_is_err_and c.from_residual.result c.from_residual.ensures.1 in
    rw (p.1, p.2)
    (made_stops (λ v. side.Expr v c.place-place.result) c.in_err-value.field-0.0 (items_left c.expr.new.lexer) (expr c.args.depth (items_left c.variable.new.lexer)) (one_side c.args.depth (items_left c.args.lexer.now))
    (side_expr c.args.depth (items_left c.args.lexer.now) (items_left c.variable.new.lexer) (rw c.in-Err-Next.field-0-is at c.in-Err-Next.ensures)
    ∙ side_placed c.args.depth (items_left c.variable.new.lexer) c.place-place.result c.place-place.ensures) c.in_err-value.ensures)

pub returns : goal.returns
returns c =
    side_expr c.args.depth (items_left c.args.lexer.now) (items_left c.variable.new.lexer) (rw c.in-Err-Next.field-0-is at c.in-Err-Next.ensures)
    ∙ side_placed c.args.depth (items_left c.variable.new.lexer) c.place-place.result c.place-place.ensures
    ∙ ap (λ (x : Outcome Expr). and_then x (λ v last. Ok (side.Expr v c.place-place.result, last))) c.in_ok-value.ensures
