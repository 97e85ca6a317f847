use Rattle.std.proofs.Common.{◌≡◌, map}
use Rattle.np_simplex.specs.Packed.{entering_slot}
use Rattle.np_simplex.proofs.choice.entering.Given as goal

abbrev pub invariant-loop-k : goal.invariant-loop-k
invariant-loop-k g l = l.best ≡ entering_slot l.columns (map g.N.Scalar.value l.top) l.k
