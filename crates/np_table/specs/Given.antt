-- The test of given entries: what the usable steps allow each subgoal, and whether its entry is at most that.
use Rattle.std.specs.Prelude.{◌≡◌, ℕ, ◌+◌, ◌<◌, min, Bool, true, false, nat_le, ◌&&◌, ◌==◌, List, [], ◌∷◌, length, slice_get, slice_set, if◌then◌else◌, ◌⊎◌, Some, None}
use Rattle.np_flat.specs.declared.state.FlatState.{FlatState}
use Rattle.np_flat.specs.declared.parts.FlatStep.{FlatStep}
use Rattle.np_flat.specs.declared.parts.Parts.{Parts}
use Rattle.np_flat.specs.States.{holds}
use Rattle.np_flat.specs.Plans.{cost_of}
use Rattle.np_flat.specs.Achieving.{achieved_by}
use Rattle.np_relax.specs.Needing.{needs_of}
use Rattle.np_relax.specs.Work.{achieved}
use Rattle.np_table.specs.Tables.{Entry, IsAtMost, reach, at}
use Rattle.np_table.specs.Lowering.{unit_at, capped, weight_by}
use Rattle.np_table.specs.Units.{paid}

-- the smaller of an entry and a number
abbrev pub lesser : Entry → ℕ → ℕ
lesser None n = n
lesser (Some m) n = min m n

-- what a step of this cost and reach allows: cost and reach, for a form the reach alone
abbrev pub allowed : Parts → ℕ → ℕ → ℕ → ℕ
allowed task cost r q = capped (weight_by (slice_get task.subgoals q) cost 0 + r)

-- the least that is allowed to these subgoals, as far as it is known
abbrev pub noted : Parts → ℕ → ℕ → List ℕ → List Entry → List Entry
noted task cost r [] reaches = reaches
noted task cost r (q ∷ qs) reaches = noted task cost r qs (slice_set reaches q (Some (lesser (at reaches q) (allowed task cost r q))))

abbrev pub noted_by : Parts → ℕ → Entry → List Entry → List Entry
noted_by task n None reaches = reaches
noted_by task n (Some r) reaches = noted task (cost_of task n) r (achieved task n) reaches

-- whether an entry is at most another
abbrev pub is_at_most : Entry → Entry → Bool
is_at_most e None = true
is_at_most None (Some n) = false
is_at_most (Some m) (Some n) = nat_le m n

abbrev pub is_number : Entry → Bool
is_number None = false
is_number (Some n) = true

-- an entry of a table is a small number or none, and 0 where the subgoal holds
abbrev pub is_fit : Bool → Entry → Bool
is_fit true None = false
is_fit true (Some n) = n == 0
is_fit false None = true
is_fit false (Some n) = nat_le n 4611686018427387903

-- a reach, and what comes beside it
abbrev pub limit_by : Entry → ℕ → Entry
limit_by None rest = None
limit_by (Some r) rest = Some (capped (r + rest))

-- whether an entry is fit and at most the reach, and for a form the share beside it
abbrev pub is_good : Parts → Bool → Entry → Entry → ℕ → ℕ → Bool
is_good task holds entry reach unit q = is_fit holds entry && is_at_most entry (limit_by reach (weight_by (slice_get task.subgoals q) 0 unit))

-- all entries are
abbrev pub AreGood : Parts → FlatState → List Entry → List Entry → List ℕ → Type 0
AreGood task s entries reaches units = (q : ℕ) → q < length task.subgoals → is_good task (holds task s q) (at entries q) (at reaches q) (unit_at units q) q ≡ true

-- the units after a step, where it is usable
abbrev pub paid_by : Parts → FlatState → FlatStep → ℕ → Entry → List ℕ → List ℕ
paid_by task s u n reached units = if is_number reached then paid task s u (achieved task n) units else units

-- of the steps that are counted, each usable one allows at least what is noted, which one of them allows
pub record IsNoted (task : Parts) (entries : ℕ → Entry) (reaches : List Entry) (steps : ℕ) : Type 0 where
  pub count : length reaches ≡ length task.subgoals
  pub least : (n q r : ℕ) → n < steps → reach entries (needs_of task n) ≡ Some r → achieved_by task n q ≡ true → IsAtMost (at reaches q) (Some (allowed task (cost_of task n) r q))
  pub one : (q : ℕ) → q < length task.subgoals
      → (at reaches q ≡ None) ⊎ ((n : ℕ) × (r : ℕ) × (n < length task.steps) × (reach entries (needs_of task n) ≡ Some r) × (achieved_by task n q ≡ true) × (at reaches q ≡ Some (allowed task (cost_of task n) r q)))
