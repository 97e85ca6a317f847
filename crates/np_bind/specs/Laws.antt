-- A bound task keeps what every bound task keeps, and has the runs and plans of its task at the same costs.
use Rattle.std.specs.Prelude.{◌≡◌, ◌↔◌, List, Some, None, Ok}
use Rattle.np_frac.specs.Fractions.{Fraction}
use Rattle.np_model.specs.declared.task.Step.{Step}
use Rattle.np_model.specs.declared.task.TaskParts.{TaskParts}
use Rattle.np_model.specs.States.{State}
use Rattle.np_model.specs.Steps.{next}
use Rattle.np_model.specs.Tasks.{IsTask}
use Rattle.np_model.specs.Plans.{start_of, run_from, cost_from, is_goal, IsPlan}
use Rattle.np_bind.specs.declared.bound.BoundParts.{BoundParts}
use Rattle.np_bind.specs.BoundTasks.{IsBound}
use Rattle.np_bind.specs.BoundPlans.{bound_start, bound_run_from, bound_cost_from, is_bound_goal, step_among, IsBoundPlan}
use Rattle.np_bind.specs.Binding.{bind_task}

abbrev pub BoundIsBound : Type 0
BoundIsBound = (task : TaskParts) (bound : BoundParts) → IsTask task → bind_task task ≡ Ok bound → IsBound bound

-- after the same steps from the start a task and its bound task are in the same state, at the same cost, or neither list runs; and
-- the goal holds in both there or in none
pub record SameRun (task : TaskParts) (bound : BoundParts) (steps : List Step) : Type 0 where
  pub ends : run_from task steps (start_of task) ≡ bound_run_from bound.steps steps (bound_start bound)
  pub costs : cost_from task steps (start_of task) ≡ bound_cost_from bound.steps steps (bound_start bound)
  pub goal : (s : State) → run_from task steps (start_of task) ≡ Some s → is_goal task s ≡ is_bound_goal bound s

abbrev pub SameRuns : Type 0
SameRuns = (task : TaskParts) (bound : BoundParts) → IsTask task → bind_task task ≡ Ok bound → (steps : List Step) → SameRun task bound steps

-- a list of steps is a plan of a task exactly where it is one of its bound task, at the same cost
abbrev pub SamePlans : Type 0
SamePlans = (task : TaskParts) (bound : BoundParts) → IsTask task → bind_task task ≡ Ok bound → (steps : List Step) (cost : Fraction)
    → IsPlan task steps cost ↔ IsBoundPlan bound steps cost

-- a step that isn't kept is applicable in no state that a run ends in
abbrev pub DroppedNeverGoes : Type 0
DroppedNeverGoes = (task : TaskParts) (bound : BoundParts) → IsTask task → bind_task task ≡ Ok bound → (step : Step)
    → step_among bound.steps step ≡ None → (steps : List Step) (s : State) → run_from task steps (start_of task) ≡ Some s → next task step s ≡ None
