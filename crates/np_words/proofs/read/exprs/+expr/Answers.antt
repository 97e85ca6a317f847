use Rattle.std.proofs.Common.{◌∷◌, Some, Ok, ap, ◌∙◌}
use Rattle.std.proofs.lemmas.Result.{err_from_is_err_and}
use Rattle.np_lex.specs.Lexers.{items_left}
use Rattle.np_read.specs.ItemReaders.{Outcome, and_then, made, further, row}
use Rattle.np_read.proofs.ItemLexing.{row_goes_on, row_stops, row_done, row_shorter}
use Rattle.np_words.specs.declared.expr.Expr.{Expr}
use Rattle.np_words.specs.ExprForm.{expr, last, maybe_last}
use Rattle.np_words.proofs.ExprLexing.{end_taken, end_left}
use Rattle.np_words.proofs.ExprStarts.{starting_expr}
use Rattle.np_words.proofs.WordLexing.{made_stops}
use Rattle.np_words.proofs.read.exprs.+expr.Goals as goal

pub further_parts-returns-in_err-value : goal.further_parts-returns-in_err-value
further_parts-returns-in_err-value t c =
    let part = expr c.args.depth in
    let p = err_from_is_err_and c.from_residual-in_err-value.result c.from_residual-in_err-value.ensures.1 in
    rw (p.1, p.2)
    (row_stops part (starting_expr c.args.depth) c.in_err-value.field-0.0 c.row.found c.row.lexer c.take_right.new.self (items_left c.expr-in-row.new.lexer) (made (λ more. c.args.first ∷ more) (further part (row part)) (items_left c.args.lexer.now)) (c.take_right.ensures.other c.row-test.true) c.in_err-value.ensures c.row.invariant)

pub further_parts-row-smaller : goal.further_parts-row-smaller
further_parts-row-smaller t c =
    row_shorter (expr c.args.depth) (starting_expr c.args.depth) c.row.lexer c.take_right.new.self c.expr-in-row.new.lexer c.in_ok-value.value (c.take_right.ensures.other c.row-test.true) c.in_ok-value.ensures

pub further_parts-row-preserved : goal.further_parts-row-preserved
further_parts-row-preserved t c =
    let part = expr c.args.depth in
    rw c.in_ok-push-3.ensures.ok
    (row_goes_on part (starting_expr c.args.depth) c.row.found c.row.lexer c.take_right.new.self c.expr-in-row.new.lexer c.in_ok-value.value (made (λ more. c.args.first ∷ more) (further part (row part)) (items_left c.args.lexer.now)) (c.take_right.ensures.other c.row-test.true) c.in_ok-value.ensures c.row.invariant)

pub further_parts-returns : goal.further_parts-returns
further_parts-returns t c =
    let part = expr c.args.depth in
    row_done part (starting_expr c.args.depth) c.row.found c.row.lexer c.take_right.new.self (made (λ more. c.args.first ∷ more) (further part (row part)) (items_left c.args.lexer.now)) (c.take_right.ensures.taken c.row-test.false) c.row.invariant

pub maybe_last-returns-then-take_right : goal.maybe_last-returns-then-take_right
maybe_last-returns-then-take_right t c = end_taken c.args.depth c.args.lexer.now c.take_right.new.self (c.take_right.ensures.taken c.if-take_right.true)

pub maybe_last-returns-in_err-part : goal.maybe_last-returns-in_err-part
maybe_last-returns-in_err-part t c =
    let p = err_from_is_err_and c.from_residual.result c.from_residual.ensures.1 in
    rw (p.1, p.2)
    (made_stops (λ b. Some b) c.in_err-part.field-0.0 (items_left c.last.new.lexer) (last (expr c.args.depth) (items_left c.take_right.new.self)) (maybe_last (expr c.args.depth) (items_left c.args.lexer.now))
    (end_left c.args.depth c.args.lexer.now c.take_right.new.self (c.take_right.ensures.other c.if-take_right.false)) c.in_err-part.ensures)

pub maybe_last-returns : goal.maybe_last-returns
maybe_last-returns t c =
    end_left c.args.depth c.args.lexer.now c.take_right.new.self (c.take_right.ensures.other c.if-take_right.false)
    ∙ ap (λ (x : Outcome Expr). and_then x (λ b rest. Ok (Some b, rest))) c.in_ok-part.ensures
