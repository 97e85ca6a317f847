use Rattle.std.proofs.Common.{◌≡◌, ◌≤◌, ◌++◌, map, take, drop}
use Rattle.np_frac.specs.Fractions.{times}
use Rattle.np_frac.specs.Checked.{reciprocal}
use Rattle.np_simplex.proofs.pivot.divide.Given as goal

abbrev pub invariant-loop-c : goal.invariant-loop-c
invariant-loop-c g l = record {
  numbers : map g.A.N.Scalar.value l.numbers ≡ map (λ x. times x (reciprocal (g.A.N.Scalar.value l.by)))
      (take l.c (map g.A.N.Scalar.value l.initial.numbers)) ++ drop l.c (map g.A.N.Scalar.value l.initial.numbers);
  same : g.A.Arith.sure l.arith ≡ g.A.Arith.sure l.initial.arith;
  later : g.A.Arith.refused l.initial.arith ≤ g.A.Arith.refused l.arith;
}
