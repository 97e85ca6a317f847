use Rattle.std.proofs.Common.{◌≡◌, ◌≤◌, ◌-◌, ◌+◌, length}
use Rattle.np_simplex.specs.Tableau.{run}
use Rattle.np_simplex.specs.Packed.{IsPacked}
use Rattle.np_simplex.specs.Views.{last_of, start_of}
use Rattle.np_simplex.proofs.run.run.Given as goal

abbrev pub invariant-pivots : goal.invariant-pivots
invariant-pivots g l = record {
  few : l.made ≤ l.most;
  packed : IsPacked g.A.N.Scalar.value (last_of l.lp) l.table (run (last_of l.lp) (start_of l.lp) l.made);
  scratch : length l.leaver.items ≡ length l.table.columns.items + 1;
  same : g.A.Arith.sure l.arith ≡ g.A.Arith.sure l.fn.arith;
  later : g.A.Arith.refused l.fn.arith ≤ g.A.Arith.refused l.arith;
}

abbrev pub decreases-pivots : goal.decreases-pivots
decreases-pivots g l = l.most - l.made
