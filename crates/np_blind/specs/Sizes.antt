-- States of the task that a step can be tried in.
use Rattle.std.specs.Prelude.{◌≡◌, ℤ, length}
use Rattle.np_state.specs.declared.state.State.{State}
use Rattle.np_flat.specs.declared.parts.Parts.{Parts}
use Rattle.np_flat.specs.Flats.{IsFlat, AreWithinLimit}

-- a bit for each fact of the flat task, and a cell for each value, whose number is within the limit
pub record IsSmallState (task : Parts) (s : State ℤ) : Type 0 where
  pub flat : IsFlat task
  pub facts : length s.facts ≡ length task.facts
  pub cells : length s.cells.items ≡ length task.values
  pub small : AreWithinLimit s.cells.items
