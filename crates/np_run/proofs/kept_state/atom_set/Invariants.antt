use Rattle.std.proofs.Common.{◌≡◌, take}
use Rattle.indexmap.specs.IndexSet as sets
use Rattle.np_model.specs.declared.task.Atom.{Atom}
use Rattle.np_model.specs.Ground.{same_atom}
use Rattle.np_model.specs.States.{is_among}
use Rattle.np_run.proofs.kept_state.atom_set.Given as goal

abbrev pub invariant-loop-atom : goal.invariant-loop-atom
invariant-loop-atom l = (a : Atom) → sets.contains same_atom l.set a ≡ is_among (take l.atom-index l.atoms) a
