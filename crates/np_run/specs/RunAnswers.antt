-- What each answer says of a list of steps, in the words of planning.
use Rattle.std.specs.Prelude.{◌≡◌, ℕ, ◌+◌, false, List, ◌∷◌, ◌++◌, length, None, Some, IsSome}
use Rattle.np_model.specs.declared.task.Step.{Step}
use Rattle.np_model.specs.declared.task.TaskParts.{TaskParts}
use Rattle.np_model.specs.States.{State}
use Rattle.np_model.specs.Steps.{next, cost_between}
use Rattle.np_model.specs.Plans.{start_of, run_from, cost_from, is_goal, IsPlan}
use Rattle.np_run.specs.declared.answers.RunEnd.{RunEnd}
use Rattle.np_run.specs.declared.answers.RunEnd.TheVariants.{Goal, NoGoal, Stuck, NoCost}

-- the steps run from the start to a state, and each of them has a cost
pub record RunsTo (task : TaskParts) (steps : List Step) (s : State) : Type 0 where
  pub runs : run_from task steps (start_of task) ≡ Some s
  pub costs : IsSome (cost_from task steps (start_of task))

-- they run, and each has a cost, but the goal doesn't hold at their end
pub record IsWithoutGoal (task : TaskParts) (steps : List Step) : Type 0 where
  pub end : State
  pub run : RunsTo task steps end
  pub goal : is_goal task end ≡ false

-- the steps before number n run, and each of them has a cost, but step n isn't applicable after them
pub record IsStuckAt (task : TaskParts) (steps : List Step) (n : ℕ) : Type 0 where
  pub front : List Step
  pub step : Step
  pub others : List Step
  pub parts : steps ≡ front ++ step ∷ others
  pub number : n ≡ length front + 1
  pub before : State
  pub run : RunsTo task front before
  pub stuck : next task step before ≡ None

-- the steps before number n run, and each of them has a cost; step n is applicable after them, but has no cost there
pub record HasNoCostAt (task : TaskParts) (steps : List Step) (n : ℕ) : Type 0 where
  pub front : List Step
  pub step : Step
  pub others : List Step
  pub parts : steps ≡ front ++ step ∷ others
  pub number : n ≡ length front + 1
  pub before : State
  pub after : State
  pub run : RunsTo task front before
  pub leads : next task step before ≡ Some after
  pub no_cost : cost_between task.metric before after ≡ None

-- what an answer says
abbrev pub Says : TaskParts → List Step → RunEnd → Type 0
Says task steps (Goal cost) = IsPlan task steps cost
Says task steps NoGoal = IsWithoutGoal task steps
Says task steps (Stuck n) = IsStuckAt task steps n
Says task steps (NoCost n) = HasNoCostAt task steps n

-- an answer is true, and no other is
pub record IsAnswer (task : TaskParts) (steps : List Step) (end : RunEnd) : Type 0 where
  pub true_of : Says task steps end
  pub only : (other : RunEnd) → Says task steps other → other ≡ end
