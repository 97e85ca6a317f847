use Rattle.std.proofs.Common.{◌≡◌}
use Rattle.np_frac.specs.Gcd.{gcd}
use Rattle.np_scale.proofs.whole.gcd.Given as goal

abbrev pub invariant-loop-y : goal.invariant-loop-y
invariant-loop-y l = gcd l.x l.y ≡ gcd l.m l.n

abbrev pub decreases-loop-y : goal.decreases-loop-y
decreases-loop-y l = l.y
