use Rattle.std.proofs.Common.{◌≡◌, ◌≤◌, map, get_or}
use Rattle.std.specs.List.{range_with_len}
use Rattle.np_simplex.specs.Packed.{slot_ray_number}
use Rattle.np_simplex.specs.Views.{line}
use Rattle.np_simplex.proofs.answer.ray_weights.Given as goal

abbrev pub invariant-loop-k : goal.invariant-loop-k
invariant-loop-k g l = record {
  made : map g.A.N.Scalar.value l.made.items ≡ map
      (slot_ray_number (get_or l.table.columns.items l.slot 0) l.slot (map (line g.A.N.Scalar.value) l.table.rows.items)) (range_with_len 0 l.k);
  same : g.A.Arith.sure l.arith ≡ g.A.Arith.sure l.fn.arith;
  later : g.A.Arith.refused l.fn.arith ≤ g.A.Arith.refused l.arith;
}
