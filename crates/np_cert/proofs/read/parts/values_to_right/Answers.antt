use Rattle.std.proofs.Common.{rules, Ok, ap, sym, ◌∙◌}
use mir.Syntax.{w128}
use mir.Val.{SFits}
use Rattle.std.proofs.lemmas.Int.{to_z-of_z}
use Rattle.std.proofs.lemmas.Result.{err_from_is_err_and}
use Rattle.np_lex.specs.Lexers.{items_left}
use Rattle.np_read.specs.ItemReaders.{row}
use Rattle.np_read.proofs.ItemLexing.{row_goes_on, row_stops, row_done, row_shorter}
use Rattle.np_cert.specs.ReadingForm.{integer}
use Rattle.np_cert.proofs.ReadingNumbers.{starts_integer}
use Rattle.np_cert.proofs.read.parts.values_to_right.Goals as goal

pub returns-in_err-value : goal.returns-in_err-value
returns-in_err-value c =
    let p = err_from_is_err_and c.from_residual.result c.from_residual.ensures.1 in
    rw (p.1, p.2)
    (row_stops integer starts_integer c.in_err-value.field-0.0 c.row.gathered.items c.row.lexer c.take_right.new.self (items_left c.integer.new.lexer) (row integer (items_left c.args.lexer.now)) (c.take_right.ensures.other c.row-test.true) c.in_err-value.ensures c.row.invariant)

pub row-smaller : goal.row-smaller
row-smaller c = row_shorter integer starts_integer c.row.lexer c.take_right.new.self c.integer.new.lexer c.in_ok-value.value (c.take_right.ensures.other c.row-test.true) c.in_ok-value.ensures

pub row-preserved : goal.row-preserved
row-preserved c =
    let fits : SFits w128 c.in_ok-value.value = search rules in
    let pushed = rw (to_z-of_z w128 c.in_ok-value.value fits) at c.in_ok-push.ensures.items in
    rw pushed
    (row_goes_on integer starts_integer c.row.gathered.items c.row.lexer c.take_right.new.self c.integer.new.lexer c.in_ok-value.value (row integer (items_left c.args.lexer.now)) (c.take_right.ensures.other c.row-test.true) c.in_ok-value.ensures c.row.invariant)

pub returns : goal.returns
returns c =
    row_done integer starts_integer c.row.gathered.items c.row.lexer c.take_right.new.self (row integer (items_left c.args.lexer.now)) (c.take_right.ensures.taken c.row-test.false) c.row.invariant
    ∙ ap (λ xs. Ok (xs, items_left c.take_right.new.self)) (sym (c.in_ok-values.ensures ∙ c.as_slice.ensures.value))
