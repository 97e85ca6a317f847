use Rattle.std.proofs.Common.{◌∙◌, ap, fold}
use Rattle.std.specs.List.{flat_map}
use Rattle.np_flat.specs.declared.limits.TheConstants.{CHANGE_SIZE}
use Rattle.np_scale.specs.Wholes.{lcm}
use Rattle.np_scale.specs.Code.{below}
use Rattle.np_scale.proofs.Units.{change_dens, change_above, changes_flat, unit_more, unit_above, unit_within, unit_past, unit_all}
use Rattle.np_scale.proofs.unit.with_changes.Goals as goal

pub returns-in_err-multiple : goal.returns-in_err-multiple
returns-in_err-multiple c =
    c.from_residual.ensures
    ∙ unit_past (change_dens c.args.values.now) (change_above c.args.values.now) CHANGE_SIZE c.args.changes.now c.loop-term.term-index c.loop-term-item.result c.loop-term.multiple
    (fold lcm c.args.unit (flat_map (change_dens c.args.values.now) c.args.changes.now)) c.loop-term-test.true c.loop-term-item.is c.loop-term.invariant.positive c.loop-term.invariant.whole
    c.in_err-multiple.ensures
    ∙ ap (λ ns. below CHANGE_SIZE (fold lcm c.args.unit ns)) (changes_flat c.args.values.now c.args.changes.now)

pub loop-term-preserved : goal.loop-term-preserved
loop-term-preserved c = record {
  whole = unit_more (change_dens c.args.values.now) (change_above c.args.values.now) CHANGE_SIZE c.args.changes.now c.loop-term.term-index c.loop-term-item.result c.loop-term.multiple
      c.in_ok-multiple.multiple (fold lcm c.args.unit (flat_map (change_dens c.args.values.now) c.args.changes.now)) c.loop-term-test.true c.loop-term-item.is c.loop-term.invariant.whole c.in_ok-multiple.ensures;
  positive = unit_above (change_dens c.args.values.now) (change_above c.args.values.now) CHANGE_SIZE c.loop-term-item.result c.loop-term.multiple c.in_ok-multiple.multiple c.loop-term.invariant.positive
      c.in_ok-multiple.ensures;
  small = unit_within (change_dens c.args.values.now) (change_above c.args.values.now) CHANGE_SIZE c.loop-term-item.result c.loop-term.multiple c.in_ok-multiple.multiple c.in_ok-multiple.ensures;
}

pub returns : goal.returns
returns c =
    unit_all (change_dens c.args.values.now) (change_above c.args.values.now) CHANGE_SIZE c.args.changes.now c.loop-term.term-index c.loop-term.multiple
    (fold lcm c.args.unit (flat_map (change_dens c.args.values.now) c.args.changes.now)) c.loop-term-test.false c.loop-term.invariant.small c.loop-term.invariant.whole
    ∙ ap (λ ns. below CHANGE_SIZE (fold lcm c.args.unit ns)) (changes_flat c.args.values.now c.args.changes.now)
