use Rattle.std.proofs.Common.{◌≡◌, take}
use Rattle.np_scale.specs.Code.{pointed}
use Rattle.np_scale.proofs.numbering.Facts.copy.Given as goal

abbrev pub invariant-loop-atom : goal.invariant-loop-atom
invariant-loop-atom l = l.facts ≡ pointed (take l.atom-index l.atom-items)
