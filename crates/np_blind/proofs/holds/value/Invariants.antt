use Rattle.std.proofs.Common.{◌≡◌, ◌+ℤ◌, take}
use Rattle.np_flat.specs.States.{terms_value}
use Rattle.np_blind.proofs.holds.value.Given as goal

abbrev pub invariant-loop-number : goal.invariant-loop-number
invariant-loop-number l = l.sum ≡ l.form.constant +ℤ terms_value l.cells (take l.number-index l.form.terms)
