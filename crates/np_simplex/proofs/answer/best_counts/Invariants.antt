use Rattle.std.proofs.Common.{◌≡◌, ◌≤◌, ◌+◌, map}
use Rattle.std.specs.List.{range_with_len}
use Rattle.np_frac.specs.Fractions.{minus}
use Rattle.np_simplex.specs.Tableau.{nought}
use Rattle.np_simplex.specs.Packed.{stored_number}
use Rattle.np_simplex.proofs.answer.best_counts.Given as goal

abbrev pub invariant-loop-k : goal.invariant-loop-k
invariant-loop-k g l = record {
  made : map g.A.N.Scalar.value l.made.items ≡ map
      (λ j. minus nought (stored_number l.table.columns.items (map g.A.N.Scalar.value l.table.top.items) (l.rows + j))) (range_with_len 0 l.k);
  same : g.A.Arith.sure l.arith ≡ g.A.Arith.sure l.fn.arith;
  later : g.A.Arith.refused l.fn.arith ≤ g.A.Arith.refused l.arith;
}
