-- What one step says of a bound.
use Rattle.std.specs.Prelude.{◌≡◌, ℕ, List, Some, IsTrue}
use Rattle.np_flat.specs.declared.state.FlatState.{FlatState}
use Rattle.np_flat.specs.declared.parts.Parts.{Parts}
use Rattle.np_flat.specs.States.{next}
use Rattle.np_flat.specs.Plans.{cost_of}
use Rattle.np_cert.specs.declared.certificate.Entry.{Entry}
use Rattle.np_cert.specs.Valid.{at_most, after_cost, bound_at}

-- where the step of this number is applicable, the bound of an entry is at most its cost with the bound of the state after it
abbrev pub IsBounded : Parts → List Entry → Entry → ℕ → Type 0
IsBounded task entries e n = (after : FlatState) → next task n e.state ≡ Some after → IsTrue (at_most e.bound (after_cost (cost_of task n) (bound_at entries after)))
