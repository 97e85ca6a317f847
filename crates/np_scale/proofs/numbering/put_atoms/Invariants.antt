use Rattle.std.proofs.Common.{◌≡◌, take}
use Rattle.std.specs.List.{flat_map}
use Rattle.np_model.specs.Ground.{same_atom}
use Rattle.np_scale.specs.Tables.{each_once, atoms_in}
use Rattle.np_scale.specs.Code.{pointed}
use Rattle.np_scale.proofs.numbering.put_atoms.Given as goal

abbrev pub invariant-loop-condition : goal.invariant-loop-condition
invariant-loop-condition l = pointed l.set.keys ≡ each_once same_atom (pointed l.initial.set.keys) (flat_map atoms_in (take l.condition-index l.conditions))
