-- How a list of steps is run, in order: the answer, or the first step in which an operation on fractions doesn't answer.
use Rattle.std.specs.Prelude.{◌≡◌, ℕ, ◌+◌, Bool, true, false, List, [], ◌∷◌, slice_get, Option, Some, None, Result, Ok, Err}
use Rattle.np_frac.specs.Fractions.{Fraction}
use Rattle.np_model.specs.declared.task.Sum.{Sum}
use Rattle.np_model.specs.declared.task.Action.{Action}
use Rattle.np_model.specs.declared.task.Step.{Step}
use Rattle.np_model.specs.declared.task.TaskParts.{TaskParts}
use Rattle.np_model.specs.States.{State}
use Rattle.np_model.specs.Plans.{start_of}
use Rattle.np_run.specs.declared.answers.RunEnd.{RunEnd}
use Rattle.np_run.specs.declared.answers.RunEnd.TheVariants as end
use Rattle.np_run.specs.declared.answers.RunFault.{RunFault}
use Rattle.np_run.specs.declared.answers.RunFault.TheVariants as fault
use Rattle.np_run.specs.declared.halt.Lack.{Lack}
use Rattle.np_run.specs.declared.halt.Lack.TheVariants as lack
use Rattle.np_run.specs.declared.halt.Pause.{Pause}
use Rattle.np_run.specs.declared.halt.Pause.TheVariants.{Stuck, NoCost, Wide}
use Rattle.np_run.specs.Computing.{and_then, added, subtracted, zero, one, computed_value, computed_all_hold}
use Rattle.np_run.specs.Changing.{computed_sums, computed_result}

-- how far a run has come: the state, the metric's value there if it has one, and the cost of the steps so far
pub record Progress : Type 0 where
  pub state : State
  pub metric : Option Fraction
  pub cost : Fraction

-- a missing value stops a step with this
abbrev pub or_pause : {A : Type 0} → Pause → Result A Lack → Result A Pause
or_pause pause (Ok x) = Ok x
or_pause pause (Err lack.Missing) = Err pause
or_pause pause (Err lack.Wide) = Err Wide

-- ---- the cost

-- the metric's value, if it has one
abbrev pub or_none : Result Fraction Lack → Result (Option Fraction) Lack
or_none (Ok x) = Ok (Some x)
or_none (Err lack.Missing) = Ok None
or_none (Err lack.Wide) = Err lack.Wide

abbrev pub computed_metric : Option Sum → State → Result (Option Fraction) Lack
computed_metric None s = Ok None
computed_metric (Some metric) s = or_none (computed_value [] s metric)

-- what has run so far, with the cost of the last step added, after which the metric has this value
abbrev pub with_cost : Progress → Option Fraction → Fraction → Result Progress Pause
with_cost r metric more =
    and_then (or_pause NoCost (added r.cost more)) (λ cost. Ok (record { state = r.state; metric = metric; cost = cost }))

-- the metric after the last step, less the metric before it
abbrev pub with_difference : Progress → Sum → Fraction → Result Progress Pause
with_difference r metric before =
    and_then (or_pause NoCost (computed_value [] r.state metric)) (λ after.
    and_then (or_pause NoCost (subtracted after before)) (λ more.
    with_cost r (Some after) more))

-- where the metric had no value before, the step has no cost, and nothing more is computed
abbrev pub with_metric : Progress → Sum → Option Fraction → Result Progress Pause
with_metric r metric None = Err NoCost
with_metric r metric (Some before) = with_difference r metric before

-- the cost of the last step added, whose changes are made while the metric is still the one before it; 1 without a metric
abbrev pub paid : Progress → Option Sum → Result Progress Pause
paid r None = with_cost r None one
paid r (Some metric) = with_metric r metric r.metric

-- ---- steps

-- the state after an action: its conditions, then its sums, then the changed values
abbrev pub computed_next : Action → List ℕ → State → Result State Lack
computed_next action objects s = and_then (computed_sums action objects s) (λ sums. computed_result action objects s sums)

-- one step of an action more: its changes, then its cost
abbrev pub with_action : TaskParts → Action → List ℕ → Progress → Result Progress Pause
with_action task action objects r =
    and_then (or_pause Stuck (computed_next action objects r.state)) (λ s.
    paid (record { state = s; metric = r.metric; cost = r.cost }) task.metric)

-- one step more
abbrev pub with_step_of : TaskParts → Option Action → List ℕ → Progress → Result Progress Pause
with_step_of task None objects r = Err Stuck
with_step_of task (Some action) objects r = with_action task action objects r

abbrev pub with_step : TaskParts → Step → Progress → Result Progress Pause
with_step task step r = with_step_of task (slice_get task.actions step.action) step.objects r

-- ---- runs

-- what the end of the steps comes to; the goal is what is computed at this number
abbrev pub goal_answer : ℕ → Fraction → Result Bool Lack → Result RunEnd RunFault
goal_answer n cost (Ok true) = Ok (end.Goal cost)
goal_answer n cost (Ok false) = Ok end.NoGoal
goal_answer n cost (Err lack.Missing) = Ok end.NoGoal
goal_answer n cost (Err lack.Wide) = Err (fault.Wide n)

-- what stops the step of this number is the answer
abbrev pub paused : ℕ → Pause → Result RunEnd RunFault
paused n Stuck = Ok (end.Stuck n)
paused n NoCost = Ok (end.NoCost n)
paused n Wide = Err (fault.Wide n)

abbrev pub or_paused : ℕ → Result Progress Pause → (Progress → Result RunEnd RunFault) → Result RunEnd RunFault
or_paused n (Ok r) f = f r
or_paused n (Err pause) f = paused n pause

-- the steps from this number on, and then the goal
abbrev pub run_on : TaskParts → ℕ → List Step → Progress → Result RunEnd RunFault
run_on task n [] r = goal_answer n r.cost (computed_all_hold [] r.state task.goal)
run_on task n (step ∷ steps) r = or_paused n (with_step task step r) (λ q. run_on task (n + 1) steps q)

-- the metric at the start belongs to step 1; without steps it isn't computed
abbrev pub metric_at_start : TaskParts → List Step → Result (Option Fraction) Lack
metric_at_start task [] = Ok None
metric_at_start task (step ∷ steps) = computed_metric task.metric (start_of task)

abbrev pub run_with : TaskParts → List Step → Result (Option Fraction) Lack → Result RunEnd RunFault
run_with task steps (Ok metric) = run_on task 1 steps (record { state = start_of task; metric = metric; cost = zero })
run_with task steps (Err lack.Missing) = run_on task 1 steps (record { state = start_of task; metric = None; cost = zero })
run_with task steps (Err lack.Wide) = Err (fault.Wide 1)

-- the answer about a list of steps, as it is computed
abbrev pub outcome_of : TaskParts → List Step → Result RunEnd RunFault
outcome_of task steps = run_with task steps (metric_at_start task steps)

-- the code answers that, unless memory runs out
abbrev pub IsOutcome : Result RunEnd RunFault → Result RunEnd RunFault → Type 0
IsOutcome (Ok e) expected = expected ≡ Ok e
IsOutcome (Err (fault.Wide n)) expected = expected ≡ Err (fault.Wide n)
IsOutcome (Err fault.Memory) expected = Unit {0}
