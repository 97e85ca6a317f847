use Rattle.std.proofs.Common.{◌≡◌, ◌≤◌, map}
use Rattle.np_simplex.specs.Tableau.{leaving}
use Rattle.np_simplex.specs.Views.{line}
use Rattle.np_simplex.proofs.choice.leaving.Given as goal

abbrev pub invariant-loop-k : goal.invariant-loop-k
invariant-loop-k g l = record {
  best : l.best ≡ leaving l.last l.entering (map (line g.A.N.Scalar.value) l.rows) l.k;
  same : g.A.Arith.sure l.arith ≡ g.A.Arith.sure l.initial.arith;
  later : g.A.Arith.refused l.initial.arith ≤ g.A.Arith.refused l.arith;
}
