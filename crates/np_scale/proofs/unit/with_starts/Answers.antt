use Rattle.std.proofs.Common.{◌≡◌, ◌∙◌, ap, fold, Some}
use Rattle.np_flat.specs.declared.limits.TheConstants.{CHANGE_SIZE}
use Rattle.np_scale.specs.Wholes.{lcm}
use Rattle.np_scale.specs.Code.{below, dens}
use Rattle.np_bind.specs.Grounding.{number_on}
use Rattle.std.proofs.Common.{map}
use Rattle.np_scale.proofs.Units.{start_dens, start_above, starts_flat, unit_more, unit_above, unit_within, unit_past, unit_all}
use Rattle.np_scale.proofs.unit.with_starts.Goals as goal

pub returns-in_err-unit : goal.returns-in_err-unit
returns-in_err-unit c =
    c.from_residual.ensures
    ∙ unit_past (start_dens c.args.starts.now) (start_above c.args.starts.now) CHANGE_SIZE _ c.loop-term.term-index c.term-item.result c.loop-term.unit _ c.loop-term-test.true c.term-item.is
    c.loop-term.invariant.positive c.loop-term.invariant.whole
    (c.in_err-unit.ensures ∙ ap (λ d. below CHANGE_SIZE (lcm c.loop-term.unit d)) (c.den.ensures.value ∙ ap (λ x. x.den) c.start_of.ensures))
    ∙ ap (λ ns. below CHANGE_SIZE (fold lcm 1 ns)) (starts_flat c.args.starts.now c.as_slice-term-items.result.now ∙ ap (λ ts. dens (map (number_on c.args.starts.now) ts)) c.as_slice-term-items.ensures)

pub loop-term-preserved : goal.loop-term-preserved
loop-term-preserved c =
    let read : Some c.in_ok-unit.unit ≡ below CHANGE_SIZE (fold lcm c.loop-term.unit (start_dens c.args.starts.now c.term-item.result)) =
    c.in_ok-unit.ensures ∙ ap (λ d. below CHANGE_SIZE (lcm c.loop-term.unit d)) (c.den.ensures.value ∙ ap (λ x. x.den) c.start_of.ensures) in
    record {
      whole = unit_more (start_dens c.args.starts.now) (start_above c.args.starts.now) CHANGE_SIZE _ c.loop-term.term-index c.term-item.result c.loop-term.unit c.in_ok-unit.unit _ c.loop-term-test.true
          c.term-item.is c.loop-term.invariant.whole read;
      positive = unit_above (start_dens c.args.starts.now) (start_above c.args.starts.now) CHANGE_SIZE c.term-item.result c.loop-term.unit c.in_ok-unit.unit c.loop-term.invariant.positive read;
      small = unit_within (start_dens c.args.starts.now) (start_above c.args.starts.now) CHANGE_SIZE c.term-item.result c.loop-term.unit c.in_ok-unit.unit read;
    }

pub returns : goal.returns
returns c =
    unit_all (start_dens c.args.starts.now) (start_above c.args.starts.now) CHANGE_SIZE _ c.loop-term.term-index c.loop-term.unit _ c.loop-term-test.false c.loop-term.invariant.small
    c.loop-term.invariant.whole
    ∙ ap (λ ns. below CHANGE_SIZE (fold lcm 1 ns)) (starts_flat c.args.starts.now c.as_slice-term-items.result.now ∙ ap (λ ts. dens (map (number_on c.args.starts.now) ts)) c.as_slice-term-items.ensures)
