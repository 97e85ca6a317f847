use Rattle.std.proofs.Common.{take}
use Rattle.np_model.specs.Maps.{HasAtoms}
use Rattle.np_model.proofs.maps.AtomSet.new.Given as goal

abbrev pub invariant-loop-atom : goal.invariant-loop-atom
invariant-loop-atom l = HasAtoms l.set (take l.atom-index l.atoms)
