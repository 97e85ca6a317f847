-- The index of a flat task: by fact and by value, the subgoals that read it.
use Rattle.std.specs.Prelude.{◌≡◌, ℕ, ◌<◌, Bool, ◌==◌, ◌||◌, ◌&&◌, false, ⊤, All, List, [], ◌++◌, length, map, slice_get, slice_index_or, Vec}
use Rattle.std.specs.List.{list_any, flat_map}
use Rattle.std.specs.Option.{option_map_or}
use Rattle.std.specs.declared.alloc.Global.{Global}
use Rattle.np_flat.specs.declared.parts.Subgoal.{Subgoal}
use Rattle.np_flat.specs.declared.parts.Subgoal.TheVariants as subgoal
use Rattle.np_flat.specs.declared.parts.FlatStep.{FlatStep}
use Rattle.np_flat.specs.declared.parts.Parts.{Parts}
use Rattle.np_flat.specs.declared.readers.Readers.{Readers}
use Rattle.np_flat.specs.States.{has}

-- a subgoal reads a fact where it is the fact or its negation
abbrev pub reads_fact : ℕ → Subgoal → Bool
reads_fact p (subgoal.Fact f) = f == p
reads_fact p (subgoal.NotFact f) = f == p
reads_fact p (subgoal.Form form) = false

-- and a value where it is a form with a term of the value
abbrev pub reads_value : ℕ → Subgoal → Bool
reads_value v (subgoal.Fact f) = false
reads_value v (subgoal.NotFact f) = false
reads_value v (subgoal.Form form) = list_any (λ t. t.0 == v) form.terms

-- the fact that it reads is below this number
abbrev pub ReadsFactBelow : ℕ → Subgoal → Type 0
ReadsFactBelow count (subgoal.Fact f) = f < count
ReadsFactBelow count (subgoal.NotFact f) = f < count
ReadsFactBelow count (subgoal.Form form) = ⊤

-- the values that it reads are
abbrev pub ReadsValuesBelow : ℕ → Subgoal → Type 0
ReadsValuesBelow count (subgoal.Fact f) = ⊤
ReadsValuesBelow count (subgoal.NotFact f) = ⊤
ReadsValuesBelow count (subgoal.Form form) = All (λ t. t.0 < count) form.terms

abbrev pub rows : List (Vec ℕ Global) → List (List ℕ)
rows table = map (λ v. v.items) table

-- the row of this number; nothing where there is none
abbrev pub row : List (List ℕ) → ℕ → List ℕ
row table p = slice_index_or table p []

-- so many rows, and in the row of each number are the numbers of exactly those subgoals that read it
pub record AreReaders (reads : ℕ → Subgoal → Bool) (count : ℕ) (subgoals : List Subgoal) (table : List (List ℕ)) : Type 0 where
  pub many : length table ≡ count
  pub each : (p q : ℕ) → p < count → has (row table p) q ≡ option_map_or (reads p) (slice_get subgoals q) false

-- the index is that of the task
pub record IsIndex (task : Parts) (readers : Readers) : Type 0 where
  pub facts : AreReaders reads_fact (length task.facts) task.subgoals (rows readers.by_fact.items)
  pub values : AreReaders reads_value (length task.values) task.subgoals (rows readers.by_value.items)

-- the rows of the numbers that are read have one more number
pub record IsNoted (reads : ℕ → Bool) (n : ℕ) (old new : List (List ℕ)) : Type 0 where
  pub many : length new ≡ length old
  pub each : (p q : ℕ) → p < length old → has (row new p) q ≡ (has (row old p) q || ((n == q) && reads p))

-- what reads a fact that the step adds or deletes, or a value that it changes
abbrev pub touched : Readers → FlatStep → List ℕ
touched readers step =
    (flat_map (row (rows readers.by_fact.items)) step.adds ++ flat_map (row (rows readers.by_fact.items)) step.deletes)
    ++ flat_map (λ c. row (rows readers.by_value.items) c.0) step.changes
