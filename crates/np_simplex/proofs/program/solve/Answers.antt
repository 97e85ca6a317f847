use Rattle.std.proofs.Common.{length, ap, ◌∙◌, arith, [], Err}
use Rattle.std.proofs.lemmas.List.{get_or-map}
use Rattle.np_simplex.specs.Views.{last_of}
use Rattle.np_simplex.proofs.Finished.{most_of, lp_start, lp_answer, lp_from_run, lp_unfit, lp_strained, lp_wide}
use Rattle.np_simplex.proofs.Halts.{halt_wide, same_fault}
use Rattle.np_simplex.proofs.Stored.{sized_packed}
use Rattle.np_simplex.proofs.program.solve.Goals as goal

pub start-requires-clause-wide : goal.start-requires-clause-wide
start-requires-clause-wide g c = λ k step d l b. omega
    (arith, c.requires.wide k l, ap length (get_or-map (λ row. row.items) c.args.lp.now.rows.items k d [] l))

pub returns-in_err-table-clause-only : goal.returns-in_err-table-clause-only
returns-in_err-table-clause-only g c = λ s w. lp_unfit c.args.lp.now
    (c.in_err-table.ensures.only s (ap (λ h. Err h) (halt_wide c.from_residual.result c.in_err-table.field-0.0 c.from_residual.ensures.1 w)))

pub run-requires-clause-packed : goal.run-requires-clause-packed
run-requires-clause-packed g c = lp_start g.A.N.Scalar.value c.args.lp.now c.in_ok-table.table c.requires.right c.in_ok-table.ensures.value
    c.in_ok-table.ensures.columns

pub returns-in_err-end-clause-only : goal.returns-in_err-end-clause-only
returns-in_err-end-clause-only g c = λ s w. lp_strained c.args.lp.now (most_of c.args.lp.now)
    (c.in_err-end.ensures.only (c.in_ok-table.ensures.same
    ∙ s) (ap (λ h. Err h) (same_fault c.from_residual-in_err-end.result c.in_err-end.field-0.0 c.from_residual-in_err-end.ensures.1 w)))

pub read-requires-clause-sized : goal.read-requires-clause-sized
read-requires-clause-sized g c = sized_packed g.A.N.Scalar.value
    (last_of c.args.lp.now) c.run.new.table c.in_ok-end.ensures.value.tableau c.in_ok-end.ensures.value.packed

pub read-requires-clause-end : goal.read-requires-clause-end
read-requires-clause-end g c = c.in_ok-end.ensures.value.within

pub returns-in_err-answer-clause-only : goal.returns-in_err-answer-clause-only
returns-in_err-answer-clause-only g c = λ s w. lp_wide g.A.N.Scalar.value c.args.lp.now
    (most_of c.args.lp.now) c.run.new.table c.in_ok-end.end c.in_ok-end.ensures.value
    (c.in_err-answer.ensures.only (c.in_ok-end.ensures.same ∙ c.in_ok-table.ensures.same ∙ s)
    (ap (λ h. Err h) (halt_wide c.from_residual-in_err-answer.result c.in_err-answer.field-0.0 c.from_residual-in_err-answer.ensures.1 w)))

pub returns-clause-answer : goal.returns-clause-answer
returns-clause-answer g c = lp_answer g.A.N.Scalar.value c.args.lp.now c.run.new.table c.in_ok-end.end c.in_ok-answer.answer
    (length c.as_slice-rows.result.now) (length c.as_slice-columns.result.now) (ap length c.as_slice-rows.ensures.value)
    (ap length c.as_slice-columns.ensures.value)
    c.requires.right c.requires.wide c.in_ok-end.ensures.value c.in_ok-answer.ensures.value

pub returns-clause-run : goal.returns-clause-run
returns-clause-run g c = lp_from_run g.A.N.Scalar.value c.args.lp.now c.run.new.table c.in_ok-end.end c.in_ok-answer.answer
    (length c.as_slice-rows.result.now) (length c.as_slice-columns.result.now) (ap length c.as_slice-rows.ensures.value)
    (ap length c.as_slice-columns.ensures.value)
    c.requires.right c.in_ok-end.ensures.value c.in_ok-answer.ensures.value
