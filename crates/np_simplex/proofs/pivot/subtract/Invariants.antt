use Rattle.std.proofs.Common.{◌≡◌, ◌≤◌, map}
use Rattle.np_simplex.proofs.Lines.{IsPartly}
use Rattle.np_simplex.proofs.pivot.subtract.Given as goal

abbrev pub invariant-loop-c : goal.invariant-loop-c
invariant-loop-c g l = record {
  partly : IsPartly g.A.N.Scalar.value l.c (map g.A.N.Scalar.value l.initial.numbers) (g.A.N.Scalar.value l.k)
      (map g.A.N.Scalar.value l.other) l.numbers;
  same : g.A.Arith.sure l.arith ≡ g.A.Arith.sure l.initial.arith;
  later : g.A.Arith.refused l.initial.arith ≤ g.A.Arith.refused l.arith;
}
