use Rattle.std.proofs.Common.{◌≡◌, ◌∙◌, ◌+◌, ◌-◌, ◌<◌, ap, length, arith}
use Rattle.np_frac.specs.Fractions.{Fraction}
use Rattle.np_model.specs.declared.task.Term.{Term}
use Rattle.np_run.proofs.KeptStates.{values_more}
use Rattle.np_run.proofs.kept_state.value_map.Goals as goal

abbrev pair : Fraction → Term → Term × Fraction
pair x t = (t, x)

pub loop-number-preserved : goal.loop-number-preserved
loop-number-preserved c =
    let n = c.loop-number.number in
    let values = c.args.values.now in
    let d = c.index-values-number.result in
    let within : n - 1 < length values = omega arith in
    let one : (n - 1) + 1 ≡ n = omega arith in
    values_more c.loop-number.map c.insert.new.self values (n - 1) n (c.in_ok-copy.field-0, d.1) d one within
    (ap (pair d.1) c.in_ok-copy.ensures ∙ c.index-values-number.is) c.in_ok-insert.ensures.updates.0 c.loop-number.invariant
