-- The bound task of a task, or the first fault. This project's own.
use Rattle.std.specs.Prelude.{nat_lt, if◌then◌else◌, List, [], ◌∷◌, ◌++◌, length, Option, Result, Ok, Err}
use Rattle.np_frac.specs.Fractions.{Fraction}
use Rattle.np_model.specs.declared.task.Term.{Term}
use Rattle.np_model.specs.declared.task.Action.{Action}
use Rattle.np_model.specs.declared.task.Step as model
use Rattle.np_model.specs.declared.task.TaskParts.{TaskParts}
use Rattle.np_model.specs.Plans.{start_values}
use Rattle.np_linear.specs.declared.linear.Linear.{Linear}
use Rattle.np_linear.specs.declared.finding.Finding.{Finding}
use Rattle.np_linear.specs.declared.finding.Finding.TheVariants as found
use Rattle.np_linear.specs.Answers.{and_then}
use Rattle.np_bind.specs.declared.limits.TheConstants.{MOST_BINDINGS, MOST_STEPS}
use Rattle.np_bind.specs.declared.bound.BoundStep.{BoundStep}
use Rattle.np_bind.specs.declared.bound.BoundParts.{BoundParts}
use Rattle.np_bind.specs.declared.bound.Spot.{Spot}
use Rattle.np_bind.specs.declared.bound.Spot.TheVariants.{Step, Goal, Metric}
use Rattle.np_bind.specs.declared.bound.BindFault.{BindFault}
use Rattle.np_bind.specs.declared.bound.BindFault.TheVariants.{TooManyTuples, TooManySteps, NotLinear, GoalUndefined, MetricUndefined, NumberWide}
use Rattle.np_bind.specs.Grounding.{left_of_goal, bound_step, linear_metric}
use Rattle.np_bind.specs.Bindings.{steps_from, binding_counts}

-- a finding is the fault at this spot, where something that is missing is that other fault
abbrev pub at_spot : {A : Type 0} → Spot → BindFault → Result A Finding → Result A BindFault
at_spot spot missing (Ok x) = Ok x
at_spot spot missing (Err found.Fails) = Err missing
at_spot spot missing (Err found.Missing) = Err missing
at_spot spot missing (Err found.NotLinear) = Err (NotLinear spot)
at_spot spot missing (Err found.Wide) = Err (NumberWide spot)

-- the kept steps and one more that was tried: it is kept where nothing is found and there is room, dropped where a condition fails or
-- something is missing, and else the fault at that step
abbrev pub with_tried : List BoundStep → model.Step → Result BoundStep Finding → Result (List BoundStep) BindFault
with_tried kept step (Ok b) = if nat_lt (length kept) MOST_STEPS then Ok (kept ++ b ∷ []) else Err TooManySteps
with_tried kept step (Err found.Fails) = Ok kept
with_tried kept step (Err found.Missing) = Ok kept
with_tried kept step (Err found.NotLinear) = Err (NotLinear (Step step))
with_tried kept step (Err found.Wide) = Err (NumberWide (Step step))

-- the kept steps after these were tried too, in their order
abbrev pub kept_from : TaskParts → List (Term × Fraction) → Option Linear → List BoundStep → List (model.Step × Action) → Result (List BoundStep) BindFault
kept_from task values metric kept [] = Ok kept
kept_from task values metric kept (x ∷ xs) =
    and_then (with_tried kept x.0 (bound_step task values metric x.0 x.1)) (λ more. kept_from task values metric more xs)

-- the bound task for these start values: the metric comes first, then the steps in order, then the goal
abbrev pub bound_from : TaskParts → List (Term × Fraction) → Result BoundParts BindFault
bound_from task values =
    and_then (at_spot Metric MetricUndefined (linear_metric task values task.metric)) (λ metric.
    and_then (kept_from task values metric [] (steps_from task 0 task.actions)) (λ steps.
    and_then (at_spot Goal GoalUndefined (left_of_goal task values)) (λ goal.
    Ok (record { atoms = task.atoms; values = values; steps = steps; goal = goal }))))

-- the bound task; there are at most 2^22 bindings
unfoldable pub bind_task : TaskParts → Result BoundParts BindFault
bind_task task = if nat_lt MOST_BINDINGS (binding_counts task task.actions) then Err TooManyTuples else bound_from task (start_values task)
