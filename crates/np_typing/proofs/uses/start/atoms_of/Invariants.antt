use Rattle.std.proofs.Common.{◌≡◌, ◌++◌}
use Rattle.np_typing.proofs.uses.start.atoms_of.Given as goal

-- those so far and those that are left
abbrev pub invariant-loop-atom : goal.invariant-loop-atom
invariant-loop-atom l = l.all ++ l.atom-iterator ≡ l.fn.atoms.keys
