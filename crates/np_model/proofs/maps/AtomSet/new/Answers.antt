use Rattle.np_model.proofs.LookUps.{atoms_more, atoms_all}
use Rattle.np_model.proofs.maps.AtomSet.new.Goals as goal

pub loop-atom-preserved : goal.loop-atom-preserved
loop-atom-preserved c =
    atoms_more c.loop-atom.set c.insert.new.self c.args.atoms.now c.loop-atom.atom-index c.atom-item.result c.atom-item.result c.loop-atom-test.true c.atom-item.is c.in_ok-insert.ensures.updates.0 c.loop-atom.invariant

pub invariant_of-result : goal.invariant_of-result
invariant_of-result c = atoms_all c.loop-atom.set c.args.atoms.now c.loop-atom.atom-index c.loop-atom-test.false c.loop-atom.invariant
