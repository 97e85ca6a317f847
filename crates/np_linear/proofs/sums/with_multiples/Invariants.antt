use Rattle.std.proofs.Common.{◌≡◌, drop}
use Rattle.np_linear.specs.Linears.{with_multiples}
use Rattle.np_linear.proofs.sums.with_multiples.Given as goal

-- those that are left are taken into what is so far
abbrev pub invariant-loop-pair : goal.invariant-loop-pair
invariant-loop-pair l = with_multiples l.up l.fn.terms l.more ≡ with_multiples l.up l.all (drop l.pair-index l.more)
