-- What is said of a task where a cheapest plan was found, and where a budget was spent.
use Rattle.std.specs.Prelude.{◌≡◌, ℕ, ◌<◌, pos, Some, List, length, All, Contains, slice_get, false}
use Rattle.np_frac.specs.Fractions.{Fraction, whole}
use Rattle.np_model.specs.declared.task.Step.{Step}
use Rattle.np_model.specs.declared.task.TaskParts.{TaskParts}
use Rattle.np_model.specs.States.{State}
use Rattle.np_model.specs.Plans.{IsPlan, NoPlanBelow, Reaches, IsAtMost, is_goal}
use Rattle.np_plan.specs.Layout.{steps_text}
use Rattle.np_commands.specs.Plans.{SpellsPlan}

-- the bytes are the printed text of a plan of the task, and spell it; this is its cost, and no plan of any length costs less
pub record IsCheapest (task : TaskParts) (bytes : List ℕ) (cost : ℕ) : Type 0 where
  pub steps : List Step
  pub layout : bytes ≡ steps_text task steps
  pub spelled : SpellsPlan task bytes steps
  pub is_plan : IsPlan task steps (whole (pos cost))
  pub none_cheaper : NoPlanBelow task (whole (pos cost))

-- no two places have the same state
abbrev pub AreDistinct : List State → Type 0
AreDistinct states = (i j : ℕ) (s : State) → slice_get states i ≡ Some s → slice_get states j ≡ Some s → i ≡ j

-- a run whose cost is at most that of every plan leads to the state, and the goal doesn't hold there
pub record IsReachedNoGoal (task : TaskParts) (s : State) : Type 0 where
  pub cost : Fraction
  pub reached : Reaches task s cost
  pub due : NoPlanBelow task cost
  pub no_goal : is_goal task s ≡ false

-- a run of at most this cost leads to the state
pub record IsWithin (task : TaskParts) (bound : ℕ) (s : State) : Type 0 where
  pub cost : Fraction
  pub reached : Reaches task s cost
  pub cheap : IsAtMost cost (whole (pos bound))

-- no plan costs less than the bound; so many different states that aren't goals are reached, and a further one that isn't a goal, at no
-- more than the bound; and each list that holds every state that can be reached is longer than the budget, so the budget isn't spent where
-- the space is small
pub record IsSpent (task : TaskParts) (nodes bound : ℕ) : Type 0 where
  pub none_cheaper : NoPlanBelow task (whole (pos bound))
  pub states : List State
  pub count : length states ≡ nodes
  pub distinct : AreDistinct states
  pub reached : All (IsReachedNoGoal task) states
  pub further : State
  pub further_within : IsWithin task bound further
  pub further_new : Contains states further → ⊥
  pub further_no_goal : is_goal task further ≡ false
  pub no_small_space : (all : List State) → ((s : State) (cost : Fraction) → Reaches task s cost → Contains all s) → nodes < length all
