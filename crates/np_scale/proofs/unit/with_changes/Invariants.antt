use Rattle.std.proofs.Common.{◌≡◌, ◌<◌, fold, drop}
use Rattle.std.specs.List.{flat_map}
use Rattle.np_flat.specs.declared.limits.TheConstants.{CHANGE_SIZE}
use Rattle.np_scale.specs.Wholes.{lcm}
use Rattle.np_scale.proofs.Units.{change_dens}
use Rattle.np_scale.proofs.unit.with_changes.Given as goal

abbrev pub invariant-loop-term : goal.invariant-loop-term
invariant-loop-term l = record {
  whole : fold lcm l.multiple (flat_map (change_dens l.values) (drop l.term-index l.changes)) ≡ fold lcm l.unit (flat_map (change_dens l.values) l.changes);
  positive : 0 < l.multiple;
  small : l.multiple < CHANGE_SIZE;
}
