use Rattle.std.proofs.Common.{◌≡◌, ◌∙◌, sym, ap, Some, drop, add-one}
use Rattle.std.specs.Prelude.{slice_get}
use Rattle.std.proofs.lemmas.Result.{err_from_is_err_and}
use Rattle.np_run.specs.Kept.{kept}
use Rattle.np_run.specs.Changing.{all_grown}
use Rattle.np_run.proofs.KeptStates.{grown_more, grown_stops}
use Rattle.np_run.proofs.changing.change_values.Goals as goal

pub loop-number-preserved : goal.loop-number-preserved
loop-number-preserved c =
    let n = c.loop-number.number in
    let there : slice_get c.args.sums.now n ≡ Some (c.in-Some.term.now, c.in-Some.sum.now) = ap (λ xs. slice_get xs n) (sym c.sums.view_is) ∙ sym c.in-Some.ensures.entry in
    c.loop-number.invariant
    ∙ grown_more (kept c.loop-number.state) (kept c.grow.new.self) c.args.sums.now n (c.in-Some.term.now, c.in-Some.sum.now) there c.in_ok-grow.ensures
    ∙ ap (λ m. all_grown (kept c.grow.new.self) (drop m c.args.sums.now)) (sym (add-one n))

pub returns-in_err-grow : goal.returns-in_err-grow
returns-in_err-grow c =
    let n = c.loop-number.number in
    let there : slice_get c.args.sums.now n ≡ Some (c.in-Some.term.now, c.in-Some.sum.now) = ap (λ xs. slice_get xs n) (sym c.sums.view_is) ∙ sym c.in-Some.ensures.entry in
    let p = err_from_is_err_and c.from_residual.result c.from_residual.ensures.1 in
    rw (p.1, p.2, c.loop-number.invariant)
    (grown_stops c.in_err-grow.field-0.0 (kept c.loop-number.state) c.args.sums.now n (c.in-Some.term.now, c.in-Some.sum.now) there c.in_err-grow.ensures)
