-- What a list of steps by name comes to on a flat task.
use Rattle.std.specs.Prelude.{◌≡◌, ℕ, ◌+◌, false, List, take, map, Some, slice_get}
use Rattle.np_model.specs.declared.task.Step.{Step}
use Rattle.np_flat.specs.declared.state.FlatState.{FlatState}
use Rattle.np_flat.specs.declared.parts.Parts.{Parts}
use Rattle.np_flat.specs.States.{is_goal, is_applicable}
use Rattle.np_flat.specs.Plans.{run_from, step_at, IsPlan}
use Rattle.np_check.specs.declared.plan_end.PlanEnd.{PlanEnd}
use Rattle.np_check.specs.declared.plan_end.PlanEnd.TheVariants.{Goal, NoGoal, Stuck}

-- steps run from the start to a state: numbers that stand for them lead there
pub record RunsTo (task : Parts) (steps : List Step) (s : FlatState) : Type 0 where
  pub numbers : List ℕ
  pub steps_are : map (step_at task) numbers ≡ map Some steps
  pub runs : run_from task numbers task.start ≡ Some s

-- all the steps run, and the goal doesn't hold at the end
pub record IsNoPlan (task : Parts) (steps : List Step) : Type 0 where
  pub end : FlatState
  pub runs : RunsTo task steps end
  pub no_goal : is_goal task end ≡ false

-- no number stands for the step, or its step isn't applicable
abbrev pub IsNotApplicable : Parts → FlatState → Step → Type 0
IsNotApplicable task s step = (n : ℕ) → step_at task n ≡ Some step → is_applicable task s n ≡ false

-- the step of this number, counted from 1, isn't applicable where those before it run to
pub record IsStuckAt (task : Parts) (steps : List Step) (number : ℕ) : Type 0 where
  pub before : ℕ
  pub number_is : number ≡ before + 1
  pub step : Step
  pub there : slice_get steps before ≡ Some step
  pub state : FlatState
  pub runs : RunsTo task (take before steps) state
  pub stuck : IsNotApplicable task state step

-- what an end says of a list of steps
abbrev pub IsPlanEnd : Parts → List Step → PlanEnd → Type 0
IsPlanEnd task steps (Goal cost) = IsPlan task steps cost
IsPlanEnd task steps NoGoal = IsNoPlan task steps
IsPlanEnd task steps (Stuck number) = IsStuckAt task steps number
