-- The bindings of an action that are tried, and what comes of all of them, as private functions see it.
use Rattle.std.specs.Prelude.{ℕ, List, [], ◌∷◌, ◌++◌, map, Option, Result, Ok}
use Rattle.std.specs.List.{flat_map}
use Rattle.np_frac.specs.Fractions.{Fraction}
use Rattle.np_model.specs.declared.task.Term.{Term}
use Rattle.np_model.specs.declared.task.Action.{Action}
use Rattle.np_model.specs.declared.task.TaskParts.{TaskParts}
use Rattle.np_linear.specs.declared.linear.Linear.{Linear}
use Rattle.np_linear.specs.Answers.{and_then}
use Rattle.np_bind.specs.declared.bound.BoundStep.{BoundStep}
use Rattle.np_bind.specs.declared.bound.BoundCond.{BoundCond}
use Rattle.np_bind.specs.declared.bound.Spot.TheVariants.{Goal, Metric}
use Rattle.np_bind.specs.declared.bound.BindFault.{BindFault}
use Rattle.np_bind.specs.declared.bound.BindFault.TheVariants.{GoalUndefined, MetricUndefined}
use Rattle.np_bind.specs.Grounding.{left_of_goal, linear_metric}
use Rattle.np_bind.specs.Bindings.{steps_from}
use Rattle.np_bind.specs.Binding.{at_spot, kept_from}

-- an action of a task with these values at the start and this metric, with its number
pub record Trial : Type 0 where
  pub task : TaskParts
  pub values : List (Term × Fraction)
  pub metric : Option Linear
  pub number : ℕ
  pub action : Action

-- the lists that have one object of each of these lists, the first slowest
abbrev pub choices : List (List ℕ) → List (List ℕ)
choices [] = [] ∷ []
choices (xs ∷ rest) = flat_map (λ o. map (λ os. o ∷ os) (choices rest)) xs

-- these lists, each after the same front
abbrev pub begun : List ℕ → List (List ℕ) → List (List ℕ)
begun front lists = map (λ os. front ++ os) lists

-- the kept steps after the action was tried with these lists of objects too
abbrev pub kept_with : Trial → List BoundStep → List (List ℕ) → Result (List BoundStep) BindFault
kept_with trial kept lists =
    kept_from trial.task trial.values trial.metric kept (map (λ objects. (record { action = trial.number; objects = objects }, trial.action)) lists)

-- the kept steps, and what is left of the goal
abbrev pub steps_and_goal : TaskParts → List (Term × Fraction) → Result (List BoundStep × List BoundCond) BindFault
steps_and_goal task values =
    and_then (at_spot Metric MetricUndefined (linear_metric task values task.metric)) (λ metric.
    and_then (kept_from task values metric [] (steps_from task 0 task.actions)) (λ steps.
    and_then (at_spot Goal GoalUndefined (left_of_goal task values)) (λ goal. Ok (steps, goal))))
