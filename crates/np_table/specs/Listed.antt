-- A table as a list: subgoals, ascending, with what they have; the others have 0.
use Rattle.std.specs.Prelude.{◌≢◌, ℕ, ◌<◌, ◌==◌, List, [], ◌∷◌, map, All, Some, None, if◌then◌else◌}
use Rattle.np_space.specs.declared.bound.Bound.{Bound}
use Rattle.np_space.specs.declared.bound.Bound.TheVariants as bound
use Rattle.np_flat.specs.Flats.{IsAscending}
use Rattle.np_table.specs.Tables.{Entry}

-- a bound as an entry
abbrev pub as_entry : Bound → Entry
as_entry (bound.AtLeast n) = Some n
as_entry bound.NoPlan = None

-- the entry that is listed for this subgoal, 0 where none is; what is listed is read as an entry
abbrev pub entry_in : {A : Type 0} → (A → Entry) → List (ℕ × A) → ℕ → Entry
entry_in read [] q = Some 0
entry_in read (x ∷ xs) q = if x.0 == q then read x.1 else entry_in read xs q

-- ascending subgoals below the limit with entries above 0
pub record AreEntries (limit : ℕ) (numbers : List (ℕ × Bound)) : Type 0 where
  pub ascending : IsAscending (map (λ e. e.0) numbers)
  pub within : All (λ e. e.0 < limit) numbers
  pub above : All (λ e. as_entry e.1 ≢ Some 0) numbers
