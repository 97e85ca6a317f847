use Rattle.std.proofs.lemmas.Result.{err_from_is_err_and}
use Rattle.np_scale.proofs.Scalings.{facts_fault, values_fault, unit_fault, tables_are}
use Rattle.np_scale.proofs.scaling.tables_of.Goals as goal

pub returns-in_err-facts-clause-fault : goal.returns-in_err-facts-clause-fault
returns-in_err-facts-clause-fault c =
    let p = err_from_is_err_and c.from_residual.result c.from_residual.ensures.1 in
    rw (p.1, p.2) (facts_fault c.args.bound.now c.in_err-facts.field-0.0 c.in_err-facts.ensures)

pub returns-in_err-values-clause-fault : goal.returns-in_err-values-clause-fault
returns-in_err-values-clause-fault c =
    let p = err_from_is_err_and c.from_residual-in_err-values.result c.from_residual-in_err-values.ensures.1 in
    rw (p.1, p.2) (values_fault c.args.bound.now c.in_ok-facts.facts c.in_err-values.field-0.0 c.in_ok-facts.ensures c.in_err-values.ensures)

pub returns-in_default-clause-fault : goal.returns-in_default-clause-fault
returns-in_default-clause-fault c =
    unit_fault c.args.bound.now c.in_ok-facts.facts c.in_ok-values.values c.args.starts.now c.as_slice.result.now c.requires c.as_slice.ensures c.in_ok-facts.ensures c.in_ok-values.ensures c.in_default.ensures

pub returns-clause-tables : goal.returns-clause-tables
returns-clause-tables c =
    tables_are c.args.bound.now c.in_ok-facts.facts c.in_ok-values.values c.in-Some.unit c.args.starts.now c.as_slice.result.now c.requires c.as_slice.ensures c.in_ok-facts.ensures c.in_ok-values.ensures
    c.in-Some.ensures
