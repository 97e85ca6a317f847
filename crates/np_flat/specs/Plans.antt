-- Runs and plans of a flat task (PDDL 2.1 at level 2, Fox and Long 2003, by number).
use Rattle.std.specs.Prelude.{◌≡◌, ℕ, ◌+◌, true, List, [], ◌∷◌, map, slice_get, Option, Some}
use Rattle.std.specs.Option.{option_map, option_map_or, option_and_then}
use Rattle.np_model.specs.declared.task.Step.{Step}
use Rattle.np_flat.specs.declared.state.FlatState.{FlatState}
use Rattle.np_flat.specs.declared.parts.Parts.{Parts}
use Rattle.np_flat.specs.States.{next, is_goal}

-- the cost of the step of this number; 0 where there is none
abbrev pub cost_of : Parts → ℕ → ℕ
cost_of task n = option_map_or (λ step. step.cost) (slice_get task.steps n) 0

-- the state after steps by number, each applicable in its turn; none where one isn't
abbrev pub run_from : Parts → List ℕ → FlatState → Option FlatState
run_from task [] s = Some s
run_from task (n ∷ ns) s = option_and_then (run_from task ns) (next task n s)

-- what steps by number cost together
abbrev pub cost_sum : Parts → List ℕ → ℕ
cost_sum task [] = 0
cost_sum task (n ∷ ns) = cost_of task n + cost_sum task ns

-- steps by number lead from a state to the goal
pub record Leads (task : Parts) (s : FlatState) (numbers : List ℕ) : Type 0 where
  pub end : FlatState
  pub runs : run_from task numbers s ≡ Some end
  pub goal : is_goal task end ≡ true

-- the step of the task that a number stands for
abbrev pub step_at : Parts → ℕ → Option Step
step_at task n = option_map (λ step. step.step) (slice_get task.steps n)

-- a list of steps is a flat plan of this cost from a state: numbers that stand for them lead from there to the goal, and cost so much together
pub record IsPlanFrom (task : Parts) (s : FlatState) (steps : List Step) (cost : ℕ) : Type 0 where
  pub numbers : List ℕ
  pub steps_are : map (step_at task) numbers ≡ map Some steps
  pub leads : Leads task s numbers
  pub costs : cost ≡ cost_sum task numbers

-- a flat plan is one from the start
abbrev pub IsPlan : Parts → List Step → ℕ → Type 0
IsPlan task = IsPlanFrom task task.start

-- a state is reachable where steps lead to it from the start; they cost so much together
pub record Reaches (task : Parts) (s : FlatState) (cost : ℕ) : Type 0 where
  pub numbers : List ℕ
  pub runs : run_from task numbers task.start ≡ Some s
  pub costs : cost ≡ cost_sum task numbers
