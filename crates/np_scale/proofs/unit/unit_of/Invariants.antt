use Rattle.std.proofs.Common.{◌≡◌, ◌<◌, fold, drop}
use Rattle.std.specs.List.{flat_map}
use Rattle.np_flat.specs.declared.limits.TheConstants.{CHANGE_SIZE}
use Rattle.np_scale.specs.Wholes.{lcm}
use Rattle.np_scale.specs.Code.{unit_for}
use Rattle.np_scale.proofs.Units.{step_dens}
use Rattle.np_scale.proofs.unit.unit_of.Given as goal

abbrev pub invariant-loop-step : goal.invariant-loop-step
invariant-loop-step l = record {
  whole : fold lcm l.unit (flat_map (step_dens l.values) (drop l.step-index l.steps)) ≡ unit_for l.values l.starts l.steps;
  positive : 0 < l.unit;
  small : l.unit < CHANGE_SIZE;
}
