use Rattle.std.proofs.Common.{◌≡◌, ◌<◌, fold, drop}
use Rattle.std.specs.List.{flat_map}
use Rattle.np_flat.specs.declared.limits.TheConstants.{CHANGE_SIZE}
use Rattle.np_scale.specs.Wholes.{lcm}
use Rattle.np_scale.proofs.Units.{start_dens}
use Rattle.np_scale.proofs.unit.with_starts.Given as goal

abbrev pub invariant-loop-term : goal.invariant-loop-term
invariant-loop-term l = record {
  whole : fold lcm l.unit (flat_map (start_dens l.starts) (drop l.term-index l.term-items)) ≡ fold lcm 1 (flat_map (start_dens l.starts) l.term-items);
  positive : 0 < l.unit;
  small : l.unit < CHANGE_SIZE;
}
