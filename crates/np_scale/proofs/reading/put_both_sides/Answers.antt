use Rattle.std.proofs.Common.{false}
use Rattle.std.proofs.lemmas.Result.{err_from_is_err_and}
use Rattle.np_flat.specs.declared.parts.Subgoal.TheVariants as subgoal
use Rattle.np_scale.specs.Forms.{negated_sum, form_of}
use Rattle.np_scale.specs.Limits.{checked_form}
use Rattle.np_scale.proofs.ReadSubgoals.{both_refused, then_known, both_numbers}
use Rattle.np_scale.proofs.reading.put_both_sides.Goals as goal

pub returns-in_err-put_side-clause-known : goal.returns-in_err-put_side-clause-known
returns-in_err-put_side-clause-known c =
    let p = err_from_is_err_and c.from_residual.result c.from_residual.ensures.1 in
    rw (p.1, p.2)
    (both_refused c.in_err-put_side.field-0.0 c.args.subgoals.now (checked_form c.args.spot.now c.args.tables.now.values c.args.tables.now.unit (false, c.args.sum.now))
    (checked_form c.args.spot.now c.args.tables.now.values c.args.tables.now.unit (false, negated_sum c.args.sum.now)) c.in_err-put_side.ensures.known)

pub returns-clause-known : goal.returns-clause-known
returns-clause-known c =
    then_known c.put_side-2.result c.put_side-2.new.subgoals c.args.subgoals.now c.put_side.new.subgoals
    (checked_form c.args.spot.now c.args.tables.now.values c.args.tables.now.unit (false, c.args.sum.now))
    (checked_form c.args.spot.now c.args.tables.now.values c.args.tables.now.unit (false, negated_sum c.args.sum.now)) c.in_ok-put_side.ensures.known c.put_side-2.ensures.known

pub returns-clause-numbers : goal.returns-clause-numbers
returns-clause-numbers c =
    both_numbers c.put_side-2.result c.put_side.new.subgoals c.put_side-2.new.subgoals (checked_form c.args.spot.now c.args.tables.now.values c.args.tables.now.unit (false, negated_sum c.args.sum.now))
    (subgoal.Form (form_of c.args.tables.now.values c.args.tables.now.unit (false, c.args.sum.now)))
    (subgoal.Form (form_of c.args.tables.now.values c.args.tables.now.unit (false, negated_sum c.args.sum.now)))
    c.args.numbers.now.items c.put_side.new.numbers.items c.put_side-2.new.numbers.items
    c.put_side-2.ensures.known c.in_ok-put_side.ensures.numbers c.put_side-2.ensures.numbers
