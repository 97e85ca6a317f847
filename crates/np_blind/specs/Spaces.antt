-- The space of a flat task's states.
use Rattle.std.specs.Prelude.{◌≡◌, ℕ, ◌≤◌, Bool, false, length, Some, None, if◌then◌else◌}
use Rattle.std.proofs.Common.{ap}
use Rattle.std.specs.Option.{option_map, option_and_then}
use Rattle.std.proofs.lemmas.Option.{slice_get_past}
use Rattle.np_state.specs.StateValues.{StateValue}
use Rattle.np_space.specs.Runs.{Next}
use Rattle.np_space.specs.declared.bound.Bound.TheVariants.{AtLeast}
use Rattle.np_space.specs.declared.judged.Judged.{Judged}
use Rattle.np_space.specs.declared.judged.Reason.TheVariants.{Zero}
use Rattle.np_flat.specs.declared.state.FlatState.{FlatState}
use Rattle.np_flat.specs.declared.parts.Parts.{Parts}
use Rattle.np_flat.specs.States.{is_goal, meets, state_after, next}
use Rattle.np_flat.specs.Plans.{cost_of}
use Rattle.np_blind.specs.Readings.{flat_of, state_of}

-- the flat start
abbrev pub first_of : Parts → StateValue
first_of task = state_of task task.start

-- whether the flat goal holds
abbrev pub is_goal_at : Parts → StateValue → Bool
is_goal_at task s = is_goal task (flat_of s)

-- the flat state after a step, and the step's cost
abbrev pub next_of : Parts → Next StateValue
next_of task s n = option_map (λ (t : FlatState). (state_of task t, cost_of task n)) (next task n (flat_of s))

-- the bound is 0, since every cost is at least 0, and nothing was given up
pub record IsBlind (j : Judged) : Type 0 where
  pub bound : j.bound ≡ AtLeast 0
  pub why : j.why ≡ Zero
  pub sure : j.weak ≡ false

-- there are no steps but those of the task
pub bounded : (task : Parts) (s : StateValue) (n : ℕ) → length task.steps ≤ n → next_of task s n ≡ None
bounded task s n past =
    ap (λ o. option_map {U = StateValue × ℕ} (λ (t : FlatState). (state_of task t, cost_of task n)) (option_and_then (λ step. if meets task (flat_of s) step then Some (state_after step (flat_of s)) else None) o)) (slice_get_past task.steps n past)
