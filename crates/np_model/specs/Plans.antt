-- Runs and plans of a task (PDDL 2.1 at level 2, Fox and Long 2003).
-- This project's own: a term of the metric that is given no value is 0 at the start, and a plan costs what its steps cost together.
use Rattle.std.specs.Prelude.{◌≡◌, pos, Bool, if◌then◌else◌, List, [], ◌∷◌, ◌++◌, Option, Some, is_some, IsTrue, IsSome, option_and_then}
use Rattle.std.specs.Option.{option_map_or}
use Rattle.std.specs.Ordering.{is_le}
use Rattle.np_frac.specs.Fractions.{Fraction, whole, plus, fraction_cmp}
use Rattle.np_model.specs.declared.task.Term.{Term}
use Rattle.np_model.specs.declared.task.Step.{Step}
use Rattle.np_model.specs.declared.task.TaskParts.{TaskParts}
use Rattle.np_model.specs.States.{State, value_among, state_of}
use Rattle.np_model.specs.Values.{of_both, terms_of}
use Rattle.np_model.specs.Conditions.{all_hold}
use Rattle.np_model.specs.Steps.{next, cost_between}

-- the values, and then 0 for each of these terms that they give none, each once
abbrev pub with_zeros : List (Term × Fraction) → List Term → List (Term × Fraction)
with_zeros values [] = values
with_zeros values (t ∷ ts) =
    with_zeros (if is_some (value_among values t) then values else values ++ (t, whole (pos 0)) ∷ []) ts

-- the ground terms that the metric reads
abbrev pub metric_terms : TaskParts → List Term
metric_terms task = option_map_or terms_of task.metric []

-- the values at the start: the task's, and then 0 for each ground term of the metric that it gives none
abbrev pub start_values : TaskParts → List (Term × Fraction)
start_values task = with_zeros task.values (metric_terms task)

-- the start: the task's atoms are true, and its terms have their values at the start
unfoldable pub start_of : TaskParts → State
start_of task = state_of task.atoms (start_values task)

-- whether the goal holds
abbrev pub is_goal : TaskParts → State → Bool
is_goal task s = all_hold [] s task.goal

-- the state after a list of steps, each applicable in its turn; none where one isn't
abbrev pub run_from : TaskParts → List Step → State → Option State
run_from task [] s = Some s
run_from task (step ∷ steps) s = option_and_then (run_from task steps) (next task step s)

-- the sum of the steps' costs; none where a step isn't applicable in its turn, or has no cost
abbrev pub cost_from : TaskParts → List Step → State → Option Fraction
cost_from task [] s = Some (whole (pos 0))
cost_from task (step ∷ steps) s =
    option_and_then (λ t. of_both plus (cost_between task.metric s t) (cost_from task steps t)) (next task step s)

-- a list of steps is a run from a state where each is applicable in its turn
abbrev pub IsRun : TaskParts → List Step → State → Type 0
IsRun task steps s = IsSome (run_from task steps s)

-- a list of steps is a plan from a state, of this cost: a run from there, at whose end the goal holds, whose steps' costs add up to it
pub record IsPlanFrom (task : TaskParts) (s : State) (steps : List Step) (cost : Fraction) : Type 0 where
  pub end : State
  pub runs : run_from task steps s ≡ Some end
  pub goal : IsTrue (is_goal task end)
  pub costs : cost_from task steps s ≡ Some cost

-- a list of steps is a plan of this cost: one from the start
abbrev pub IsPlan : TaskParts → List Step → Fraction → Type 0
IsPlan task steps cost = IsPlanFrom task (start_of task) steps cost

-- some run from the start, of this cost, ends in the state
pub record Reaches (task : TaskParts) (s : State) (cost : Fraction) : Type 0 where
  pub steps : List Step
  pub runs : run_from task steps (start_of task) ≡ Some s
  pub costs : cost_from task steps (start_of task) ≡ Some cost

-- the first is less or equal
abbrev pub IsAtMost : Fraction → Fraction → Type 0
IsAtMost x y = IsTrue (is_le (fraction_cmp x y))

-- no list of steps is a plan
abbrev pub IsUnsolvable : TaskParts → Type 0
IsUnsolvable task = (steps : List Step) (cost : Fraction) → ¬ IsPlan task steps cost

-- each plan, of any length, costs at least this
abbrev pub NoPlanBelow : TaskParts → Fraction → Type 0
NoPlanBelow task least = (steps : List Step) (cost : Fraction) → IsPlan task steps cost → IsAtMost least cost
