-- The steps of a flat task by a fact that they need.
use Rattle.std.specs.Prelude.{◌≡◌, ℕ, ◌<◌, ◌+◌, true, ◌⊎◌, List, length, Some, slice_get}
use Rattle.np_flat.specs.declared.parts.Subgoal.TheVariants.{Fact}
use Rattle.np_flat.specs.declared.parts.FlatStep.{FlatStep}
use Rattle.np_flat.specs.declared.parts.Parts.{Parts}
use Rattle.np_flat.specs.States.{has}
use Rattle.np_flat.specs.Readers.{row}

-- one of the step's needs is that this fact is true
pub record NeedsFact (task : Parts) (step : FlatStep) (p : ℕ) : Type 0 where
  pub index : ℕ
  pub need : ℕ
  pub needed : slice_get step.needs index ≡ Some need
  pub is_fact : slice_get task.subgoals need ≡ Some (Fact p)

-- where a step may be filed: under a fact that it needs, or after all facts
abbrev pub IsPlaceOf : Parts → FlatStep → ℕ → Type 0
IsPlaceOf task step p = (p ≡ length task.facts) ⊎ NeedsFact task step p

-- a step is filed at a place that is its own
pub record IsFiled (task : Parts) (table : List (List ℕ)) (n : ℕ) (step : FlatStep) : Type 0 where
  pub place : ℕ
  pub within : place < length table
  pub own : IsPlaceOf task step place
  pub filed : has (row table place) n ≡ true

-- each step of a number below this is filed; there is a row for each fact, and one after all
pub record AreFiled (task : Parts) (below : ℕ) (table : List (List ℕ)) : Type 0 where
  pub count : length table ≡ length task.facts + 1
  pub each : (n : ℕ) (step : FlatStep) → n < below → slice_get task.steps n ≡ Some step → IsFiled task table n step
