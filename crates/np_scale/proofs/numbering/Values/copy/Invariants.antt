use Rattle.std.proofs.Common.{◌≡◌, take}
use Rattle.np_scale.specs.Code.{pointed}
use Rattle.np_scale.proofs.numbering.Values.copy.Given as goal

abbrev pub invariant-loop-term : goal.invariant-loop-term
invariant-loop-term l = l.values ≡ pointed (take l.term-index l.term-items)
