use Rattle.std.proofs.lemmas.Result.{err_from_is_err_and}
use Rattle.np_lex.specs.Lexers.{items_left}
use Rattle.np_read.specs.ItemReaders.{row}
use Rattle.np_read.proofs.ItemLexing.{row_goes_on, row_stops, row_done, row_shorter}
use Rattle.np_conditions.specs.ConditionForm.{condition}
use Rattle.np_conditions.proofs.ConditionStarts.{starting_condition}
use Rattle.np_conditions.proofs.read.conditions.+condition.Goals as goal

pub conditions_to_right-returns-in_err-value : goal.conditions_to_right-returns-in_err-value
conditions_to_right-returns-in_err-value t c =
    let part = condition c.args.depth in
    let p = err_from_is_err_and c.from_residual.result c.from_residual.ensures.1 in
    rw (p.1, p.2)
    (row_stops part (starting_condition c.args.depth) c.in_err-value.field-0.0 c.row.found c.row.lexer c.take_right.new.self (items_left c.condition.new.lexer) (row part (items_left c.args.lexer.now)) (c.take_right.ensures.other c.row-test.true) c.in_err-value.ensures c.row.invariant)

pub conditions_to_right-row-smaller : goal.conditions_to_right-row-smaller
conditions_to_right-row-smaller t c =
    row_shorter (condition c.args.depth) (starting_condition c.args.depth) c.row.lexer c.take_right.new.self c.condition.new.lexer c.in_ok-value.value (c.take_right.ensures.other c.row-test.true) c.in_ok-value.ensures

pub conditions_to_right-row-preserved : goal.conditions_to_right-row-preserved
conditions_to_right-row-preserved t c =
    let part = condition c.args.depth in
    rw c.in_ok-push.ensures.ok
    (row_goes_on part (starting_condition c.args.depth) c.row.found c.row.lexer c.take_right.new.self c.condition.new.lexer c.in_ok-value.value (row part (items_left c.args.lexer.now)) (c.take_right.ensures.other c.row-test.true) c.in_ok-value.ensures c.row.invariant)

pub conditions_to_right-returns : goal.conditions_to_right-returns
conditions_to_right-returns t c =
    let part = condition c.args.depth in
    row_done part (starting_condition c.args.depth) c.row.found c.row.lexer c.take_right.new.self (row part (items_left c.args.lexer.now)) (c.take_right.ensures.taken c.row-test.false) c.row.invariant
