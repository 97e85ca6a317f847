use Rattle.std.proofs.Common.{◌≡◌, ◌≤◌, ◌++◌, map, take}
use Rattle.np_frac.specs.Fractions.{whole}
use Rattle.np_simplex.proofs.start.push_wholes.Given as goal

abbrev pub invariant-loop-value : goal.invariant-loop-value
invariant-loop-value g l = record {
  made : map g.A.N.Scalar.value l.numbers.items ≡ map g.A.N.Scalar.value l.initial.numbers.items ++ map whole (take l.value-index l.values);
  same : g.A.Arith.sure l.arith ≡ g.A.Arith.sure l.initial.arith;
  later : g.A.Arith.refused l.initial.arith ≤ g.A.Arith.refused l.arith;
}
