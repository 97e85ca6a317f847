use Rattle.std.proofs.lemmas.Result.{err_from_is_err_and}
use Rattle.np_scale.specs.Limits.{checked_form}
use Rattle.np_scale.specs.Code.{turned}
use Rattle.np_scale.proofs.ReadSubgoals.{answer_refused, answer_known, answer_numbers}
use Rattle.np_scale.proofs.reading.put_side.Goals as goal

pub returns-in_err-subgoal-clause-known : goal.returns-in_err-subgoal-clause-known
returns-in_err-subgoal-clause-known c =
    let p = err_from_is_err_and c.from_residual.result c.from_residual.ensures.1 in
    rw (p.1, p.2)
    (answer_refused c.in_err-subgoal.field-0.0 c.args.subgoals.now
    (checked_form c.args.spot.now c.args.tables.now.values c.args.tables.now.unit (c.args.side.strict, turned c.args.side.negated c.args.sum.now))
    c.in_err-subgoal.ensures)

pub returns-clause-known : goal.returns-clause-known
returns-clause-known c =
    answer_known c.put_subgoal.result c.put_subgoal.new.subgoals c.args.subgoals.now
    (checked_form c.args.spot.now c.args.tables.now.values c.args.tables.now.unit (c.args.side.strict, turned c.args.side.negated c.args.sum.now)) _
    c.in_ok-subgoal.ensures c.put_subgoal.ensures.known

pub returns-clause-numbers : goal.returns-clause-numbers
returns-clause-numbers c =
    answer_numbers c.put_subgoal.result c.args.spot.now c.args.tables.now.values c.args.tables.now.unit (c.args.side.strict, turned c.args.side.negated c.args.sum.now)
    _ c.put_subgoal.new.subgoals c.args.numbers.now.items
    c.put_subgoal.new.numbers.items c.in_ok-subgoal.ensures c.put_subgoal.ensures.numbers
