-- What is computed of a step is the step: whether it is applicable, the state after it, and its cost.
use Rattle.std.proofs.Common.{◌≡◌, ℕ, Bool, true, false, refl, sym, ◌∙◌, ap, List, [], Option, Some, None, Ok, Err, Result}
use Rattle.std.specs.Prelude.{◌&&◌, if◌then◌else◌, slice_get, is_some, IsTrue, option_and_then}
use Rattle.np_frac.specs.Fractions.{Fraction, plus, minus}
use Rattle.np_frac.specs.Checked.{plus_fits, minus_fits}
use Rattle.np_model.specs.declared.task.Term.{Term}
use Rattle.np_model.specs.declared.task.Sum.{Sum}
use Rattle.np_model.specs.declared.task.Action.{Action}
use Rattle.np_model.specs.declared.task.Step.{Step}
use Rattle.np_model.specs.declared.task.TaskParts.{TaskParts}
use Rattle.np_model.specs.States.{State}
use Rattle.np_model.specs.Values.{of_both, value_of}
use Rattle.np_model.specs.Conditions.{all_hold}
use Rattle.np_model.specs.Steps.{takes, action_of, is_step, is_applicable, result_of, next, cost_between}
use Rattle.np_model.proofs.Same.{same_state}
use Rattle.np_model.proofs.Sums.{of_both_missing, sum_left_zero}
use Rattle.np_run.specs.declared.halt.Lack.{Lack}
use Rattle.np_run.specs.declared.halt.Lack.TheVariants as lack
use Rattle.np_run.specs.declared.halt.Pause.{Pause}
use Rattle.np_run.specs.declared.halt.Pause.TheVariants.{Stuck, NoCost, Wide}
use Rattle.np_run.specs.Computing.{and_then, fitting, subtracted, one, computed_value, computed_all_hold}
use Rattle.np_run.specs.Changing.{sums_from, with_atoms_after, computed_result}
use Rattle.np_run.specs.Taking.{Progress, or_pause, with_cost, with_difference, with_metric, paid, computed_next, with_action, with_step_of, with_step}
use Rattle.np_run.proofs.Agreeing.{Means, value_means, Tells, all_hold_tells}
use Rattle.np_run.proofs.Summing.{SumsSay, amounts, sums_say, GrownSays, grown_says}

no_yes : true ≡ false → ⊥
no_yes e = cc

-- ---- the state after

-- what is computed says this of a step of an action
abbrev pub NextSays : Action → List ℕ → State → Result State Lack → Type 0
NextSays action objects s (Ok t) = (is_applicable action objects s ≡ true) × (result_of action objects s ≡ t)
NextSays action objects s (Err lack.Missing) = is_applicable action objects s ≡ false
NextSays action objects s (Err lack.Wide) = Unit {0}

nothing : (b : Bool) → (b && false) ≡ false
nothing true = refl
nothing false = refl

pub next_says : (action : Action) (objects : List ℕ) (s : State) → NextSays action objects s (computed_next action objects s)
next_says action objects s = conditions (computed_all_hold objects s action.needs) (all_hold_tells objects s action.needs)
  where
    values : all_hold objects s action.needs ≡ true → (sums : List (Term × Fraction)) → SumsSay objects s [] action.effects (Ok sums)
        → (r : Result State Lack) → GrownSays (with_atoms_after action objects s) sums r → NextSays action objects s r
    values holding sums h (Ok t) k = (
      rw (holding, h.0) refl,
      same_state _ _ (λ a. sym (k.0 a))
          (λ t. sym (k.1 t ∙ ap (of_both plus (s.value t)) (sym (h.2 t) ∙ sum_left_zero (amounts objects s t action.effects)))),
    )
    values holding sums h (Err lack.Missing) k = absurd k
    values holding sums h (Err lack.Wide) k = tt

    added_up : all_hold objects s action.needs ≡ true → (r : Result (List (Term × Fraction)) Lack) → SumsSay objects s [] action.effects r
        → NextSays action objects s (and_then r (λ sums. computed_result action objects s sums))
    added_up holding (Ok sums) h = values holding sums h (computed_result action objects s sums) (grown_says (with_atoms_after action objects s) sums h.1)
    added_up holding (Err lack.Missing) h = rw h (nothing (all_hold objects s action.needs))
    added_up holding (Err lack.Wide) h = tt

    conditions : (r : Result Bool Lack) → Tells (all_hold objects s action.needs) r
        → NextSays action objects s
        (and_then (and_then r (λ b. if b then sums_from objects s [] action.effects else Err lack.Missing)) (λ sums. computed_result action objects s sums))
    conditions (Ok true) holding = added_up holding (sums_from objects s [] action.effects) (sums_say objects s [] action.effects tt)
    conditions (Ok false) failing = rw failing refl
    conditions (Err lack.Missing) failing = rw failing refl
    conditions (Err lack.Wide) h = tt

-- ---- the cost

-- what is kept of the metric is its value
abbrev pub MetricIs : Option Sum → State → Option Fraction → Type 0
MetricIs None s m = Unit {0}
MetricIs (Some metric) s m = value_of [] s metric ≡ m

-- what is computed says this of the cost of the step from a state
pub record HasPaid (metric : Option Sum) (before : State) (cost : Fraction) (after : State) (r : Progress) : Type 0 where
  pub more : Fraction
  pub costs : cost_between metric before after ≡ Some more
  pub total : r.cost ≡ plus cost more
  pub state : r.state ≡ after
  pub kept : MetricIs metric r.state r.metric

abbrev pub PaidSays : Option Sum → State → Fraction → State → Result Progress Pause → Type 0
PaidSays metric before cost after (Ok r) = HasPaid metric before cost after r
PaidSays metric before cost after (Err Stuck) = ⊥
PaidSays metric before cost after (Err NoCost) = cost_between metric before after ≡ None
PaidSays metric before cost after (Err Wide) = Unit {0}

-- the cost is added
cost_says : (metric : Option Sum) (before : State) (r : Progress) (m : Option Fraction) (more : Fraction) → cost_between metric before r.state ≡ Some more → MetricIs metric r.state m
    → PaidSays metric before r.cost r.state (with_cost r m more)
cost_says metric before r m more e h = by (plus_fits r.cost more)
  where
    by : (b : Bool) → PaidSays metric before r.cost r.state
        (and_then (or_pause NoCost (fitting b (plus r.cost more))) (λ cost. Ok (record { state = r.state; metric = m; cost = cost })))
    by true = record { more = more; costs = e; total = refl; state = refl; kept = h }
    by false = tt

difference_says : (metric : Sum) (before : State) (r : Progress) (v : Fraction) → value_of [] before metric ≡ Some v
    → PaidSays (Some metric) before r.cost r.state (with_difference r metric v)
difference_says metric before r v e = after (computed_value [] r.state metric) (value_means [] r.state metric)
  where
    less : (w : Fraction) → value_of [] r.state metric ≡ Some w → (b : Bool)
        → PaidSays (Some metric) before r.cost r.state (and_then (or_pause NoCost (fitting b (minus w v))) (λ more. with_cost r (Some w) more))
    less w d true = cost_says (Some metric) before r (Some w) (minus w v) (rw (d, e) refl) d
    less w d false = tt

    after : (x : Result Fraction Lack) → Means (value_of [] r.state metric) x
        → PaidSays (Some metric) before r.cost r.state
        (and_then (or_pause NoCost x) (λ w. and_then (or_pause NoCost (subtracted w v)) (λ more. with_cost r (Some w) more)))
    after (Ok w) d = less w d (minus_fits w v)
    after (Err lack.Missing) d = rw d refl
    after (Err lack.Wide) d = tt

pub paid_says : (metric : Option Sum) (before : State) (r : Progress) → MetricIs metric before r.metric → PaidSays metric before r.cost r.state (paid r metric)
paid_says None before r h = cost_says None before r None one refl tt
paid_says (Some metric) before r h = by r.metric h
  where
    by : (m : Option Fraction) → value_of [] before metric ≡ m → PaidSays (Some metric) before r.cost r.state (with_metric r metric m)
    by None e = rw e (of_both_missing minus (value_of [] r.state metric))
    by (Some v) e = difference_says metric before r v e

-- ---- steps

-- a step was taken
pub record HasStepped (task : TaskParts) (step : Step) (r q : Progress) : Type 0 where
  pub more : Fraction
  pub leads : next task step r.state ≡ Some q.state
  pub costs : cost_between task.metric r.state q.state ≡ Some more
  pub total : q.cost ≡ plus r.cost more
  pub kept : MetricIs task.metric q.state q.metric

-- a step leads to a state, and has no cost
pub record CostsNothing (task : TaskParts) (step : Step) (s : State) : Type 0 where
  pub after : State
  pub leads : next task step s ≡ Some after
  pub no_cost : cost_between task.metric s after ≡ None

-- what is computed says this of a step
abbrev pub StepSays : TaskParts → Step → Progress → Result Progress Pause → Type 0
StepSays task step r (Ok q) = HasStepped task step r q
StepSays task step r (Err Stuck) = next task step r.state ≡ None
StepSays task step r (Err NoCost) = CostsNothing task step r.state
StepSays task step r (Err Wide) = Unit {0}

leads_to : (task : TaskParts) (step : Step) (action : Action) (s t : State) → action_of task step ≡ Some action
    → (is_applicable action step.objects s ≡ true) × (result_of action step.objects s ≡ t) → next task step s ≡ Some t
unfolding next
leads_to task step action s t is k = rw (is, k.0) (ap Some k.1)

sticks : (task : TaskParts) (step : Step) (action : Action) (s : State) → action_of task step ≡ Some action → is_applicable action step.objects s ≡ false → next task step s ≡ None
unfolding next
sticks task step action s is k = rw (is, k) refl

no_action : (task : TaskParts) (step : Step) (s : State) → action_of task step ≡ None → next task step s ≡ None
unfolding next
no_action task step s e = rw e refl

-- a step of an action
action_says : (task : TaskParts) (step : Step) (action : Action) (r : Progress) → action_of task step ≡ Some action → MetricIs task.metric r.state r.metric
    → StepSays task step r (with_action task action step.objects r)
action_says task step action r is h = state (computed_next action step.objects r.state) (next_says action step.objects r.state)
  where
    cost : (t : State) → next task step r.state ≡ Some t → (x : Result Progress Pause) → PaidSays task.metric r.state r.cost t x → StepSays task step r x
    cost t e (Ok q) k = record {
      more = k.more;
      leads = e ∙ ap Some (sym k.state);
      costs = ap (cost_between task.metric r.state) k.state ∙ k.costs;
      total = k.total;
      kept = k.kept;
    }
    cost t e (Err Stuck) k = absurd k
    cost t e (Err NoCost) k = record { after = t; leads = e; no_cost = k }
    cost t e (Err Wide) k = tt

    state : (x : Result State Lack) → NextSays action step.objects r.state x
        → StepSays task step r (and_then (or_pause Stuck x) (λ s. paid (record { state = s; metric = r.metric; cost = r.cost }) task.metric))
    state (Ok t) k =
        cost t (leads_to task step action r.state t is k) (paid (record { state = t; metric = r.metric; cost = r.cost }) task.metric)
        (paid_says task.metric r.state (record { state = t; metric = r.metric; cost = r.cost }) h)
    state (Err lack.Missing) k = sticks task step action r.state is k
    state (Err lack.Wide) k = tt

-- the action of a step of the task
pub step_action : (task : TaskParts) (step : Step) → IsTrue (is_step task step) → action_of task step ≡ slice_get task.actions step.action
step_action task step h = by (slice_get task.actions step.action) h
  where
    when_taken : (action : Action) (b : Bool) → is_some (if b then Some action else None) ≡ true → (if b then Some action else None) ≡ Some action
    when_taken action true e = refl
    when_taken action false e = absurd (no_yes (sym e))

    by : (o : Option Action) → is_some (option_and_then (λ action. if takes task action step.objects then Some action else None) o) ≡ true
        → option_and_then (λ action. if takes task action step.objects then Some action else None) o ≡ o
    by None e = refl
    by (Some action) e = when_taken action (takes task action step.objects) e

pub step_says : (task : TaskParts) (step : Step) (r : Progress) → IsTrue (is_step task step) → MetricIs task.metric r.state r.metric → StepSays task step r (with_step task step r)
step_says task step r is_one h = by (slice_get task.actions step.action) (step_action task step is_one)
  where
    by : (o : Option Action) → action_of task step ≡ o → StepSays task step r (with_step_of task o step.objects r)
    by None e = no_action task step r.state e
    by (Some action) e = action_says task step action r e h
