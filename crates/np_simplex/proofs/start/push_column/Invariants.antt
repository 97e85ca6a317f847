use Rattle.std.proofs.Common.{◌≡◌, ◌≤◌, ◌++◌, map, take}
use Rattle.np_simplex.specs.Tableau.{column}
use Rattle.np_simplex.specs.Views.{rows_of}
use Rattle.np_simplex.proofs.start.push_column.Given as goal

abbrev pub invariant-loop-row : goal.invariant-loop-row
invariant-loop-row g l = record {
  made : map g.A.N.Scalar.value l.numbers.items ≡ map g.A.N.Scalar.value l.initial.numbers.items ++ column (rows_of (take l.row-index l.rows)) l.step;
  same : g.A.Arith.sure l.arith ≡ g.A.Arith.sure l.initial.arith;
  later : g.A.Arith.refused l.initial.arith ≤ g.A.Arith.refused l.arith;
}
