use Rattle.std.proofs.Common.{◌≡◌, true, drop}
use Rattle.std.specs.List.{list_all}
use Rattle.np_scale.specs.Code.{is_small_change, all_amounts}
use Rattle.np_scale.proofs.step.scaled_changes.Given as goal

abbrev pub invariant-loop-place : goal.invariant-loop-place
invariant-loop-place l = record {
  amounts : l.changes.items ≡ all_amounts l.tables.values l.tables.unit (drop l.place l.step.changes);
  small : list_all (is_small_change l.tables.values l.tables.unit) (drop l.place l.step.changes) ≡ true;
}
