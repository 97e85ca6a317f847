-- Laws of the definitions: what a step does to the value of a form and to subgoals, and how large the values of a run are.
use Rattle.std.specs.Prelude.{◌≡◌, ◌⊎◌, ℕ, ◌+◌, ◌*◌, ◌+ℤ◌, true, List, length, Some}
use Rattle.np_flat.specs.declared.limits.TheConstants.{CHANGE_SIZE}
use Rattle.np_flat.specs.declared.state.FlatState.{FlatState}
use Rattle.np_flat.specs.declared.parts.Form.{Form}
use Rattle.np_flat.specs.declared.parts.Parts.{Parts}
use Rattle.np_flat.specs.Flats.{AreBelow, IsStateOf, IsFlat}
use Rattle.np_flat.specs.States.{form_value, holds, next}
use Rattle.np_flat.specs.Achieving.{net_of, achieved_by}
use Rattle.np_flat.specs.Plans.{run_from}

-- a step adds exactly its net change to the value of a form
abbrev pub StepAddsNet : Type 0
StepAddsNet = (task : Parts) (n : ℕ) (form : Form) (s t : FlatState) → IsFlat task → IsStateOf task s → next task n s ≡ Some t → form_value form t ≡ form_value form s +ℤ net_of task n form

-- a subgoal that holds after a step held before it, or the step achieves it
abbrev pub KeptOrAchieved : Type 0
KeptOrAchieved = (task : Parts) (n q : ℕ) (s t : FlatState) → IsFlat task → IsStateOf task s → next task n s ≡ Some t → holds task t q ≡ true → (holds task s q ≡ true) ⊎ (achieved_by task n q ≡ true)

-- a state of the task whose values are below this in size
pub record IsStateBelow (task : Parts) (size : ℕ) (s : FlatState) : Type 0 where
  pub state : IsStateOf task s
  pub values : AreBelow size s.values

-- each step of a run from the start may add less than the limit of a change to the values
abbrev pub StartedRunsAreSmall : Type 0
StartedRunsAreSmall = (task : Parts) (numbers : List ℕ) (t : FlatState) → IsFlat task → run_from task numbers task.start ≡ Some t → IsStateBelow task (CHANGE_SIZE * (1 + length numbers)) t
