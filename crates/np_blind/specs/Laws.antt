-- That a flat task and its space have the same runs, plans and states.
use Rattle.std.specs.Prelude.{◌≡◌, ◌↔◌, ℕ, List}
use Rattle.std.specs.Option.{option_map}
use Rattle.np_state.specs.StateValues.{StateValue}
use Rattle.np_space.specs.Runs.{run, IsPlan, IsReached}
use Rattle.np_flat.specs.declared.state.FlatState.{FlatState}
use Rattle.np_flat.specs.declared.parts.Parts.{Parts}
use Rattle.np_flat.specs.Flats.{IsStateOf, IsFlat}
use Rattle.np_flat.specs.Plans.{run_from, cost_sum, Leads, Reaches}
use Rattle.np_blind.specs.Readings.{flat_of, state_of}
use Rattle.np_blind.specs.Spaces.{first_of, is_goal_at, next_of}

-- the same steps run in both, to a flat state and what it is in the space, at the same cost
abbrev pub SameRuns : Type 0
SameRuns = (task : Parts) → IsFlat task → (steps : List ℕ) → run (next_of task) steps (first_of task) ≡ option_map (λ (t : FlatState). (state_of task t, cost_sum task steps)) (run_from task steps task.start)

-- steps by number are a plan of the space exactly where they lead from the flat start to the goal, at what they cost together
abbrev pub SamePlans : Type 0
SamePlans = (task : Parts) → IsFlat task → (steps : List ℕ) (cost : ℕ) → IsPlan (next_of task) (is_goal_at task) (first_of task) steps cost ↔ (Leads task task.start steps × (cost ≡ cost_sum task steps))

-- a state of the space, read as a flat state, is a state of the task that is reached at this cost, and is the state again as one of the space
pub record IsReading (task : Parts) (s : StateValue) (cost : ℕ) : Type 0 where
  pub state : IsStateOf task (flat_of s)
  pub same : state_of task (flat_of s) ≡ s
  pub reaches : Reaches task (flat_of s) cost

abbrev pub ReachedAreReadings : Type 0
ReachedAreReadings = (task : Parts) → IsFlat task → (s : StateValue) (reached : IsReached (next_of task) (first_of task) s) → IsReading task s reached.cost

-- no two flat states of the task are one state of the space
abbrev pub ReadingsApart : Type 0
ReadingsApart = (task : Parts) (s t : FlatState) → IsStateOf task s → IsStateOf task t → state_of task s ≡ state_of task t → s ≡ t
