use Rattle.std.proofs.Common.{◌∙◌}
use Rattle.np_run.proofs.KeptStates.{atoms_more, atoms_all}
use Rattle.np_run.proofs.kept_state.atom_set.Goals as goal

pub loop-atom-preserved : goal.loop-atom-preserved
loop-atom-preserved c =
    atoms_more c.loop-atom.set c.insert.new.self c.args.atoms.now c.loop-atom.atom-index c.in_ok-copy.field-0 c.atom-item.result c.loop-atom-test.true
    (c.in_ok-copy.ensures ∙ c.atom-item.is) c.in_ok-insert.ensures.updates.0 c.loop-atom.invariant

pub returns : goal.returns
returns c = atoms_all c.loop-atom.set c.args.atoms.now c.loop-atom.atom-index c.loop-atom-test.false c.loop-atom.invariant
