use Rattle.std.proofs.Common.{◌≡◌, take}
use Rattle.np_flat.specs.States.{all_changed}
use Rattle.np_blind.proofs.after.add_changes.Given as goal

abbrev pub invariant-loop-number : goal.invariant-loop-number
invariant-loop-number l = l.cells ≡ all_changed (take l.number-index l.changes) l.fn.cells
