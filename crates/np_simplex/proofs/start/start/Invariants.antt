use Rattle.std.proofs.Common.{◌≡◌, ◌≤◌, map}
use Rattle.std.specs.List.{range_with_len}
use Rattle.np_simplex.specs.Packed.{slot_line_of}
use Rattle.np_simplex.specs.Views.{line, rows_of}
use Rattle.np_simplex.proofs.start.start.Given as goal

abbrev pub invariant-loop-step : goal.invariant-loop-step
invariant-loop-step g l = record {
  made : map (line g.A.N.Scalar.value) l.rows.items ≡ map (slot_line_of (rows_of l.lp.rows.items) l.lp.costs.items) (range_with_len 0 l.step);
  same : g.A.Arith.sure l.arith ≡ g.A.Arith.sure l.fn.arith;
  later : g.A.Arith.refused l.fn.arith ≤ g.A.Arith.refused l.arith;
}
