-- Entries are lowered step by step; subgoals whose entries were lowered are marked until the steps that need them are looked at.
use Rattle.std.specs.Prelude.{◌≡◌, ℕ, ◌+◌, ◌<◌, ◌≤◌, min, Bool, true, false, nat_lt, List, [], ◌∷◌, length, slice_get, slice_index_or, slice_set, if◌then◌else◌, ◌⊎◌, Option, Some, None}
use Rattle.std.specs.List.{list_all}
use Rattle.np_flat.specs.declared.state.FlatState.{FlatState}
use Rattle.np_flat.specs.declared.parts.Form.{Form}
use Rattle.np_flat.specs.declared.parts.Subgoal.{Subgoal}
use Rattle.np_flat.specs.declared.parts.Subgoal.TheVariants as subgoal
use Rattle.np_flat.specs.declared.parts.FlatStep.{FlatStep}
use Rattle.np_flat.specs.declared.parts.Parts.{Parts}
use Rattle.np_flat.specs.States.{has, holds}
use Rattle.np_flat.specs.Plans.{cost_of}
use Rattle.np_flat.specs.Achieving.{achieves, achieved_by}
use Rattle.np_relax.specs.Needing.{needs_of}
use Rattle.np_relax.specs.Closed.{on}
use Rattle.np_relax.specs.Work.{achieved}
use Rattle.np_table.specs.Tables.{Entry, at, IsAtMost, reach, share, IsTable}

abbrev pub unit_at : List ℕ → ℕ → ℕ
unit_at units q = slice_index_or units q 0

-- no entry is a larger number
abbrev pub capped : ℕ → ℕ
capped n = min 4611686018427387903 n

-- what a step adds to its reach: its cost, and for a form the least share
abbrev pub weight_by : Option Subgoal → ℕ → ℕ → ℕ
weight_by None cost unit = cost
weight_by (Some (subgoal.Fact p)) cost unit = cost
weight_by (Some (subgoal.NotFact p)) cost unit = cost
weight_by (Some (subgoal.Form form)) cost unit = unit

abbrev pub weight : Parts → List ℕ → ℕ → ℕ → ℕ
weight task units n q = weight_by (slice_get task.subgoals q) (cost_of task n) (unit_at units q)

abbrev pub is_below : ℕ → Entry → Bool
is_below m None = true
is_below m (Some n) = nat_lt m n

-- what a step of this reach achieves, lowered
abbrev pub lowered : Parts → List ℕ → ℕ → ℕ → List ℕ → List Entry → List Bool → List Entry × List Bool
lowered task units n r [] entries marks = (entries, marks)
lowered task units n r (q ∷ qs) entries marks =
    if is_below (capped (weight task units n q + r)) (at entries q) then lowered task units n r qs (slice_set entries q (Some (capped (weight task units n q + r)))) (slice_set marks q true)
    else lowered task units n r qs entries marks

abbrev pub settled_by : Parts → List ℕ → ℕ → Entry → List Entry → List Bool → List Entry × List Bool
settled_by task units n None entries marks = (entries, marks)
settled_by task units n (Some r) entries marks = lowered task units n r (achieved task n) entries marks

abbrev pub settled : Parts → List ℕ → ℕ → List Entry → List Bool → List Entry × List Bool
settled task units n entries marks = settled_by task units n (reach (at entries) (needs_of task n)) entries marks

abbrev pub all_settled : Parts → List ℕ → List ℕ → List Entry → List Bool → List Entry × List Bool
all_settled task units [] entries marks = (entries, marks)
all_settled task units (n ∷ ns) entries marks = all_settled task units ns (settled task units n entries marks).0 (settled task units n entries marks).1

-- what entries can still fall by
abbrev pub height_of : Entry → ℕ
height_of None = 4611686018427387904
height_of (Some n) = n

abbrev pub height : List Entry → ℕ
height [] = 0
height (e ∷ es) = height_of e + height es

-- the least share of each form, over the steps that raise it and may come to be taken
pub record AreUnits (task : Parts) (s : FlatState) (can : ℕ → Bool) (units : List ℕ) : Type 0 where
  pub least : (q n : ℕ) (form : Form) (u : FlatStep) → slice_get task.subgoals q ≡ Some (subgoal.Form form) → holds task s q ≡ false → slice_get task.steps n ≡ Some u → list_all can u.needs ≡ true → achieves u (subgoal.Form form) ≡ true
      → unit_at units q ≤ share s form u
  pub reached : (q : ℕ) (form : Form) → slice_get task.subgoals q ≡ Some (subgoal.Form form) → holds task s q ≡ false
      → (4611686018427387903 ≤ unit_at units q) ⊎ ((n : ℕ) × (u : FlatStep) × (slice_get task.steps n ≡ Some u) × (list_all can u.needs ≡ true) × (achieves u (subgoal.Form form) ≡ true) × (unit_at units q ≡ share s form u))

-- where no need of a step is marked, what it achieves has an entry of at most its weight and its reach
abbrev pub IsSettled : Parts → List ℕ → ℕ → List Entry → List Bool → Type 0
IsSettled task units n entries marks =
    ((q : ℕ) → has (needs_of task n) q ≡ true → on marks q ≡ false) → (r : ℕ) → reach (at entries) (needs_of task n) ≡ Some r → (q : ℕ) → achieved_by task n q ≡ true → IsAtMost (at entries q) (Some (weight task units n q + r))

-- the steps that are counted are settled, and each entry is at least that of each table
pub record IsFalling (task : Parts) (s : FlatState) (can : ℕ → Bool) (units : List ℕ) (entries : List Entry) (marks : List Bool) (steps : ℕ) : Type 0 where
  pub count : length entries ≡ length task.subgoals
  pub marked : length marks ≡ length task.subgoals
  pub small : (q n : ℕ) → at entries q ≡ Some n → n < 4611686018427387904
  pub reachable : (q n : ℕ) → at entries q ≡ Some n → can q ≡ true
  pub true_ones : (q : ℕ) → holds task s q ≡ true → at entries q ≡ Some 0
  pub above : (others : ℕ → Entry) → IsTable task s others → (q : ℕ) → IsAtMost (others q) (at entries q)
  pub settled : (n : ℕ) → n < steps → IsSettled task units n entries marks
