-- The index of the steps by what they need.
use Rattle.std.specs.Prelude.{◌≡◌, ℕ, ◌<◌, true, List, [], ◌∷◌, ◌++◌, length, slice_get, slice_set, All}
use Rattle.std.specs.Option.{option_map_or}
use Rattle.np_flat.specs.declared.parts.Parts.{Parts}
use Rattle.np_flat.specs.States.{has}
use Rattle.np_flat.specs.Readers.{row, rows}
use Rattle.np_relax.specs.declared.needing.Needing.{Needing}

-- what the step of this number needs
abbrev pub needs_of : Parts → ℕ → List ℕ
needs_of task n = option_map_or (λ step. step.needs) (slice_get task.steps n) []

-- a number at the end of each of these rows
abbrev pub filed : List ℕ → ℕ → List (List ℕ) → List (List ℕ)
filed [] n table = table
filed (q ∷ qs) n table = filed qs n (slice_set table q (row table q ++ n ∷ []))

-- each of the first so many steps is in the rows of what it needs, and only numbers of them are in the rows
pub record IsFiled (task : Parts) (steps : ℕ) (table : List (List ℕ)) : Type 0 where
  pub count : length table ≡ length task.subgoals
  pub has_each : (n q : ℕ) → n < steps → has (needs_of task n) q ≡ true → has (row table q) n ≡ true
  pub within : (q : ℕ) → All (λ n. n < steps) (row table q)

-- the index of the task's steps
abbrev pub IsNeeding : Parts → Needing → Type 0
IsNeeding task needing = IsFiled task (length task.steps) (rows needing.rows.items)
