use Rattle.std.proofs.Common.{◌≡◌, ◌+ℤ◌, take}
use Rattle.np_flat.specs.States.{terms_value}
use Rattle.np_flat.proofs.parts.Form.value.Given as goal

abbrev pub invariant-loop-number : goal.invariant-loop-number
invariant-loop-number l = l.sum ≡ l.self.constant +ℤ terms_value l.state.values (take l.number-index l.self.terms)
