use Rattle.std.proofs.Common.{◌∙◌, sym, ap, subst, List, Result}
use Rattle.std.proofs.lemmas.Result.{err_from_is_err_and}
use Rattle.np_flat.specs.declared.parts.Subgoal.{Subgoal}
use Rattle.np_bind.specs.declared.bound.BoundCond.{BoundCond}
use Rattle.np_scale.specs.Answers.{Refuses}
use Rattle.np_scale.specs.declared.fault.ScaleFault.{ScaleFault}
use Rattle.np_scale.specs.Forms.{subgoals_in}
use Rattle.np_scale.specs.Limits.{checked_subgoals, with_subgoals}
use Rattle.np_scale.specs.Code.{ArePut}
use Rattle.np_scale.proofs.Known.{known_more, known_refused, put_more, with_subgoals_grows}
use Rattle.np_scale.proofs.reading.subgoal_numbers.Goals as goal

pub loop-condition-preserved : goal.loop-condition-preserved
loop-condition-preserved c =
    let f : BoundCond → List (Result Subgoal ScaleFault) = checked_subgoals c.args.spot.now c.args.tables.now.facts c.args.tables.now.values c.args.tables.now.unit in
    let g : BoundCond → List Subgoal = subgoals_in c.args.tables.now.facts c.args.tables.now.values c.args.tables.now.unit in
    record {
      known = known_more f c.loop-condition.subgoals c.put_condition.new.subgoals _ c.args.conditions.now c.loop-condition.condition-index c.condition-item.result
          c.loop-condition-test.true c.loop-condition.invariant.known
          (ap (λ x. with_subgoals c.loop-condition.subgoals (f x)) (sym c.condition-item.is) ∙ c.in_ok-put_condition.ensures.known);
      put = put_more g c.loop-condition.subgoals c.put_condition.new.subgoals c.loop-condition.numbers.items c.put_condition.new.numbers.items
          c.args.conditions.now c.loop-condition.condition-index c.condition-item.result c.loop-condition-test.true c.loop-condition.invariant.put
          (with_subgoals_grows c.loop-condition.subgoals (f c.condition-item.result) c.put_condition.new.subgoals c.in_ok-put_condition.ensures.known)
          (subst (λ x. ArePut c.put_condition.new.subgoals (g x) c.loop-condition.numbers.items c.put_condition.new.numbers.items) c.condition-item.is
          c.in_ok-put_condition.ensures.numbers);
    }

pub returns-in_err-put_condition-clause-known : goal.returns-in_err-put_condition-clause-known
returns-in_err-put_condition-clause-known c =
    let p = err_from_is_err_and c.from_residual-in_err-put_condition.result c.from_residual-in_err-put_condition.ensures.1 in
    let f : BoundCond → List (Result Subgoal ScaleFault) = checked_subgoals c.args.spot.now c.args.tables.now.facts c.args.tables.now.values c.args.tables.now.unit in
    rw (p.1, p.2)
    (known_refused c.in_err-put_condition.field-0.0 f c.loop-condition.subgoals _ c.args.conditions.now c.loop-condition.condition-index c.condition-item.result
    c.loop-condition-test.true c.loop-condition.invariant.known
    (subst (λ x. Refuses c.in_err-put_condition.field-0.0 (with_subgoals c.loop-condition.subgoals (f x))) c.condition-item.is c.in_err-put_condition.ensures.known))
