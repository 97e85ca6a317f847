use Rattle.std.proofs.Common.{◌≡◌, sym, ap, ◌∙◌}
use Rattle.np_words.specs.declared.expr.Expr.TheVariants as expr
use Rattle.np_typing.specs.Uses.{expr_faults}
use Rattle.np_typing.proofs.UsesAnswers.{handed, first_same, first_next}
use Rattle.np_typing.proofs.UsesFolds.{faults_of_sum, faults_of_product, sum_of_parts, product_of_parts}
use Rattle.np_typing.proofs.uses.exprs.+exprs.Goals as goal

pub expr-returns-in_err-exprs-in-Add : goal.expr-returns-in_err-exprs-in-Add
expr-returns-in_err-exprs-in-Add t c =
    let parts = c.as_slice-in-Add.result.now in
    let is : c.args.expr.now ≡ expr.Add parts = c.in-Add.is ∙ ap expr.Add (sym c.as_slice-in-Add.ensures) in
    handed _ _ c.from_residual-in_err-exprs-in-Add.result c.in_err-exprs-in-Add.field-0.0 c.from_residual-in_err-exprs-in-Add.ensures.1
    (first_same _ _ _ (faults_of_sum c.args.scope.now c.args.in_amount c.args.expr.now parts is) c.in_err-exprs-in-Add.ensures)

pub expr-returns-in_ok-exprs-in-Add : goal.expr-returns-in_ok-exprs-in-Add
expr-returns-in_ok-exprs-in-Add t c =
    let parts = c.as_slice-in-Add.result.now in
    let is : c.args.expr.now ≡ expr.Add parts = c.in-Add.is ∙ ap expr.Add (sym c.as_slice-in-Add.ensures) in (
      faults_of_sum c.args.scope.now c.args.in_amount c.args.expr.now parts is ∙ c.in_ok-exprs-in-Add.ensures.0,
      sum_of_parts c.args.scope.now c.args.expr.now parts c.in_ok-exprs-in-Add.field-0 is c.in_ok-exprs-in-Add.ensures.1,
    )

pub expr-returns-in_err-exprs-in-Mul : goal.expr-returns-in_err-exprs-in-Mul
expr-returns-in_err-exprs-in-Mul t c =
    let parts = c.as_slice-in-Mul.result.now in
    let is : c.args.expr.now ≡ expr.Mul parts = c.in-Mul.is ∙ ap expr.Mul (sym c.as_slice-in-Mul.ensures) in
    handed _ _ c.from_residual-in_err-exprs-in-Mul.result c.in_err-exprs-in-Mul.field-0.0 c.from_residual-in_err-exprs-in-Mul.ensures.1
    (first_same _ _ _ (faults_of_product c.args.scope.now c.args.in_amount c.args.expr.now parts is) c.in_err-exprs-in-Mul.ensures)

pub expr-returns-in_ok-exprs-in-Mul : goal.expr-returns-in_ok-exprs-in-Mul
expr-returns-in_ok-exprs-in-Mul t c =
    let parts = c.as_slice-in-Mul.result.now in
    let is : c.args.expr.now ≡ expr.Mul parts = c.in-Mul.is ∙ ap expr.Mul (sym c.as_slice-in-Mul.ensures) in (
      faults_of_product c.args.scope.now c.args.in_amount c.args.expr.now parts is ∙ c.in_ok-exprs-in-Mul.ensures.0,
      product_of_parts c.args.scope.now c.args.expr.now parts c.in_ok-exprs-in-Mul.field-0 is c.in_ok-exprs-in-Mul.ensures.1,
    )

pub exprs-returns-in_err-expr : goal.exprs-returns-in_err-expr
exprs-returns-in_err-expr t c =
    handed _ _ c.from_residual.result c.in_err-expr.field-0.0 c.from_residual.ensures.1
    (first_next (expr_faults c.args.scope.now c.args.in_amount) c.args.parts.now c.loop-part.part-index c.part-item.result _
    c.loop-part-test.true c.part-item.is c.loop-part.invariant.left c.in_err-expr.ensures)
