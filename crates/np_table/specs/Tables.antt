-- Lower bounds on what it costs to come to each subgoal (max-cost, Bonet and Geffner 2001; for forms this project's own).
use Rattle.std.specs.Prelude.{◌≡◌, ℕ, ◌+◌, ◌-◌, ◌*◌, ◌/◌, ◌<◌, ◌≤◌, ◌^◌, max, true, List, [], ◌∷◌, length, slice_get, slice_index_or, unsigned_abs, Option, Some, None}
use Rattle.np_flat.specs.declared.state.FlatState.{FlatState}
use Rattle.np_flat.specs.declared.parts.Form.{Form}
use Rattle.np_flat.specs.declared.parts.Subgoal.{Subgoal}
use Rattle.np_flat.specs.declared.parts.Subgoal.TheVariants as subgoal
use Rattle.np_flat.specs.declared.parts.FlatStep.{FlatStep}
use Rattle.np_flat.specs.declared.parts.Parts.{Parts}
use Rattle.np_flat.specs.States.{form_value, holds}
use Rattle.np_flat.specs.Achieving.{net, achieves}

-- an entry is a number, or none, which is above all numbers
abbrev pub Entry : Type 0
Entry = Option ℕ

-- the entry of this number
abbrev pub at : List Entry → ℕ → Entry
at entries q = slice_index_or entries q None

abbrev pub IsAtMost : Entry → Entry → Type 0
IsAtMost e None = Unit {0}
IsAtMost None (Some n) = ⊥
IsAtMost (Some m) (Some n) = m ≤ n

-- the larger entry
abbrev pub larger : Entry → Entry → Entry
larger None e = None
larger (Some m) None = None
larger (Some m) (Some n) = Some (max m n)

-- a cost of that much is at least the entry; none is above all costs
abbrev pub IsUnder : Entry → ℕ → Type 0
IsUnder (Some n) cost = n ≤ cost
IsUnder None cost = ⊥

-- the largest entry among these, 0 where there is none
abbrev pub reach : (ℕ → Entry) → List ℕ → Entry
reach entries [] = Some 0
reach entries (q ∷ qs) = larger (entries q) (reach entries qs)

-- x over y, rounded up
abbrev pub over_up : ℕ → ℕ → ℕ
over_up x y = (x + (y - 1)) / y

-- where a form is false, what a step that raises it costs at least by unit: the lack times its cost over its net change, rounded up
abbrev pub share : FlatState → Form → FlatStep → ℕ
share s form step = over_up (unsigned_abs (form_value form s) * step.cost) (unsigned_abs (net step form))

-- a step of the task is usable and achieves the subgoal; its reach
pub record Achiever (task : Parts) (entries : ℕ → Entry) (goal : Subgoal) (step : FlatStep) (reached : ℕ) : Type 0 where
  pub number : ℕ
  pub at : slice_get task.steps number ≡ Some step
  pub reaches : reach entries step.needs ≡ Some reached
  pub achieves : achieves step goal ≡ true

-- the entry of a subgoal is at most what each usable step that achieves it allows
abbrev pub IsEntry : Parts → FlatState → (ℕ → Entry) → Entry → Subgoal → Type 0
IsEntry task s entries entry (subgoal.Fact p) = (o : FlatStep) (r : ℕ) → Achiever task entries (subgoal.Fact p) o r → IsAtMost entry (Some (o.cost + r))
IsEntry task s entries entry (subgoal.NotFact p) = (o : FlatStep) (r : ℕ) → Achiever task entries (subgoal.NotFact p) o r → IsAtMost entry (Some (o.cost + r))
IsEntry task s entries entry (subgoal.Form form) =
    (o u : FlatStep) (r r' : ℕ) → Achiever task entries (subgoal.Form form) o r → Achiever task entries (subgoal.Form form) u r' → IsAtMost entry (Some (r + share s form u))

-- a table at a state
pub record IsTable (task : Parts) (s : FlatState) (entries : ℕ → Entry) : Type 0 where
  pub small : (q n : ℕ) → entries q ≡ Some n → n < 2 ^ 62
  pub true_ones : (q : ℕ) → holds task s q ≡ true → entries q ≡ Some 0
  pub bounded : (q : ℕ) (goal : Subgoal) → slice_get task.subgoals q ≡ Some goal → IsEntry task s entries (entries q) goal

-- the greatest table at a state: no other has a larger entry for a subgoal of the task
pub record IsGreatest (task : Parts) (s : FlatState) (entries : ℕ → Entry) : Type 0 where
  pub table : IsTable task s entries
  pub greatest : (others : ℕ → Entry) → IsTable task s others → (q : ℕ) → q < length task.subgoals → IsAtMost (others q) (entries q)
