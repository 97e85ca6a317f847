use Rattle.std.proofs.Common.{◌∙◌, sym, ap, subst, map}
use Rattle.std.proofs.lemmas.List.{take_all}
use Rattle.std.proofs.lemmas.Result.{err_from_is_err_and}
use Rattle.np_scale.specs.Answers.{Refuses}
use Rattle.np_scale.specs.FlatOf.{flat_step}
use Rattle.np_scale.specs.Limits.{checked_step}
use Rattle.np_scale.specs.Code.{IsReady, IsStepOf, numbers_with}
use Rattle.np_scale.proofs.Steps.{steps_more, steps_fault, steps_put}
use Rattle.np_scale.proofs.step.flat_steps.Goals as goal

pub flat_step-requires-clause-step : goal.flat_step-requires-clause-step
flat_step-requires-clause-step c =
    subst (IsReady c.args.tables.now.values c.args.tables.now.unit) (sym c.step-item.is) (c.requires.steps c.loop-step.step-index c.step-item.result c.loop-step-test.true)

pub returns-in_err-flat_step-clause-known : goal.returns-in_err-flat_step-clause-known
returns-in_err-flat_step-clause-known c =
    let p = err_from_is_err_and c.from_residual.result c.from_residual.ensures.1 in
    rw (p.1, p.2)
    (steps_fault c.in_err-flat_step.field-0.0 c.args.tables.now.facts c.args.tables.now.values c.args.tables.now.unit c.loop-step.subgoals _ c.args.steps.now c.loop-step.step-index c.step-item.result
    c.loop-step-test.true c.loop-step.invariant.known
    (subst (λ b. Refuses c.in_err-flat_step.field-0.0 (checked_step c.args.tables.now.facts c.args.tables.now.values c.args.tables.now.unit c.loop-step.subgoals b)) c.step-item.is
    c.in_err-flat_step.ensures.known))

pub loop-step-preserved : goal.loop-step-preserved
loop-step-preserved c =
    let facts = c.args.tables.now.facts in
    let terms = c.args.tables.now.values in
    let unit = c.args.tables.now.unit in
    let one = ap (checked_step facts terms unit c.loop-step.subgoals) (sym c.step-item.is) ∙ c.in_ok-flat_step.ensures.known in
    record {
      known = steps_more facts terms unit c.loop-step.subgoals c.flat_step.new.subgoals _ c.args.steps.now c.loop-step.step-index c.step-item.result c.loop-step-test.true c.loop-step.invariant.known one;
      steps = λ final s.
          c.in_ok-push.ensures.ok
          ∙ steps_put facts terms unit c.loop-step.subgoals c.flat_step.new.subgoals c.loop-step.flat c.in_ok-flat_step.field-0 c.args.steps.now c.loop-step.step-index c.step-item.result c.loop-step-test.true
          c.loop-step.invariant.steps one (subst (λ b. IsStepOf facts terms unit c.flat_step.new.subgoals b c.in_ok-flat_step.field-0) c.step-item.is c.in_ok-flat_step.ensures.step) final s;
    }

pub returns-clause-steps : goal.returns-clause-steps
returns-clause-steps c final s =
    c.loop-step.invariant.steps final s
    ∙ ap (map (flat_step (numbers_with c.args.tables.now.facts c.args.tables.now.values c.args.tables.now.unit final))) (take_all c.loop-step.step-index c.args.steps.now c.loop-step-test.false)
