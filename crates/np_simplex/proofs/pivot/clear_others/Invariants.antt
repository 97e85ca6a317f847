use Rattle.std.proofs.Common.{◌≡◌, ◌≤◌, ◌++◌, map, take, drop, set, length}
use Rattle.np_simplex.specs.Tableau.{line_at, IsShaped}
use Rattle.np_simplex.specs.Packed.{slot_cleared}
use Rattle.np_simplex.specs.Views.{line}
use Rattle.np_simplex.proofs.pivot.clear_others.Given as goal

abbrev pub invariant-loop-i : goal.invariant-loop-i
invariant-loop-i g l = record {
  rows : map (line g.A.N.Scalar.value) l.rows ≡ set
      (map (slot_cleared l.slot (map g.A.N.Scalar.value l.leaver)) (take l.i (map (line g.A.N.Scalar.value) l.initial.rows))
      ++ drop l.i (map (line g.A.N.Scalar.value) l.initial.rows)) l.leaving (line_at (map (line g.A.N.Scalar.value) l.initial.rows) l.leaving);
  shaped : IsShaped (length l.leaver) (map (line g.A.N.Scalar.value) l.rows);
  same : g.A.Arith.sure l.arith ≡ g.A.Arith.sure l.initial.arith;
  later : g.A.Arith.refused l.initial.arith ≤ g.A.Arith.refused l.arith;
}
