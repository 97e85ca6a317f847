-- Rows of bits, by place.
use Rattle.std.specs.Prelude.{◌≡◌, ℕ, ◌<◌, ◌&&◌, ◌||◌, Bool, false, not, List, length, slice_index_or, if◌then◌else◌}
use Rattle.np_flat.specs.declared.parts.FlatStep.{FlatStep}
use Rattle.np_flat.specs.States.{has}

-- the bit at a place; false past the end
abbrev pub bit : List Bool → ℕ → Bool
bit bits p = slice_index_or bits p false

-- the bits at these places are changed, and no others
pub record IsSet (on : Bool) (places : List ℕ) (old new : List Bool) : Type 0 where
  pub count : length new ≡ length old
  pub each : (p : ℕ) → p < length old → bit new p ≡ (if has places p then on else bit old p)

-- a fact is true after a step that adds it, and where it was true and the step doesn't delete it
pub record AreFactsAfter (step : FlatStep) (old new : List Bool) : Type 0 where
  pub count : length new ≡ length old
  pub each : (p : ℕ) → p < length old → bit new p ≡ (has step.adds p || (not (has step.deletes p) && bit old p))
