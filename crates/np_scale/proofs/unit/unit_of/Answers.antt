use Rattle.std.proofs.Common.{◌≡◌, ◌<◌, ℕ, ◌∙◌, ap, sym, subst, fold, map, Some}
use Rattle.std.specs.List.{flat_map}
use Rattle.np_bind.specs.Grounding.{number_on}
use Rattle.np_flat.specs.declared.limits.TheConstants.{CHANGE_SIZE}
use Rattle.np_scale.specs.Wholes.{lcm}
use Rattle.np_scale.specs.Code.{below, dens, changes_on}
use Rattle.np_scale.proofs.Scaled.{below_is}
use Rattle.np_scale.proofs.Units.{step_dens, step_above, unit_parts, starts_above, unit_more, unit_above, unit_within, unit_past, unit_past_before, unit_all}
use Rattle.np_scale.proofs.unit.unit_of.Goals as goal

pub returns-in_err-unit : goal.returns-in_err-unit
returns-in_err-unit c =
    c.from_residual.ensures
    ∙ unit_past_before (step_dens c.args.values.now) (step_above c.args.values.now) CHANGE_SIZE c.args.steps.now (fold lcm 1 (dens (map (number_on c.args.starts.now) c.args.values.now)))
    (starts_above c.args.values.now c.args.starts.now) c.in_err-unit.ensures
    ∙ ap (below CHANGE_SIZE) (unit_parts c.args.values.now c.args.starts.now c.args.steps.now)

pub loop-step-init : goal.loop-step-init
loop-step-init c =
    let is = below_is CHANGE_SIZE (fold lcm 1 (dens (map (number_on c.args.starts.now) c.args.values.now))) c.in_ok-unit.unit c.in_ok-unit.ensures in
    record {
      whole = ap (λ n. fold lcm n (flat_map (step_dens c.args.values.now) c.args.steps.now)) is.0 ∙ unit_parts c.args.values.now c.args.starts.now c.args.steps.now;
      positive = subst (λ (n : ℕ). 0 < n) (sym is.0) (starts_above c.args.values.now c.args.starts.now);
      small = is.1;
    }

pub returns-in_err-unit-2 : goal.returns-in_err-unit-2
returns-in_err-unit-2 c =
    c.from_residual-in_err-unit-2.ensures
    ∙ unit_past (step_dens c.args.values.now) (step_above c.args.values.now) CHANGE_SIZE c.args.steps.now c.loop-step.step-index c.step-item.result c.loop-step.unit _ c.loop-step-test.true
    c.step-item.is c.loop-step.invariant.positive c.loop-step.invariant.whole
    (c.in_err-unit-2.ensures ∙ ap (λ cs. below CHANGE_SIZE (fold lcm c.loop-step.unit (dens (changes_on c.args.values.now cs)))) c.as_slice.ensures)

pub loop-step-preserved : goal.loop-step-preserved
loop-step-preserved c =
    let read : Some c.in_ok-unit-2.unit ≡ below CHANGE_SIZE (fold lcm c.loop-step.unit (step_dens c.args.values.now c.step-item.result)) =
    c.in_ok-unit-2.ensures ∙ ap (λ cs. below CHANGE_SIZE (fold lcm c.loop-step.unit (dens (changes_on c.args.values.now cs)))) c.as_slice.ensures in
    record {
      whole = unit_more (step_dens c.args.values.now) (step_above c.args.values.now) CHANGE_SIZE c.args.steps.now c.loop-step.step-index c.step-item.result c.loop-step.unit c.in_ok-unit-2.unit _
          c.loop-step-test.true c.step-item.is c.loop-step.invariant.whole read;
      positive = unit_above (step_dens c.args.values.now) (step_above c.args.values.now) CHANGE_SIZE c.step-item.result c.loop-step.unit c.in_ok-unit-2.unit c.loop-step.invariant.positive read;
      small = unit_within (step_dens c.args.values.now) (step_above c.args.values.now) CHANGE_SIZE c.step-item.result c.loop-step.unit c.in_ok-unit-2.unit read;
    }

pub returns : goal.returns
returns c =
    unit_all (step_dens c.args.values.now) (step_above c.args.values.now) CHANGE_SIZE c.args.steps.now c.loop-step.step-index c.loop-step.unit _ c.loop-step-test.false c.loop-step.invariant.small
    c.loop-step.invariant.whole
