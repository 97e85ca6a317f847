-- Steps and lists of steps of a task and of its bound task lead to the same states at the same costs.
use Rattle.std.proofs.Common.{◌≡◌, Bool, true, false, refl, sym, ◌∙◌, ap, subst, List, [], ◌∷◌, Some, None, Ok, Err, Option, Result}
use Rattle.std.proofs.Math.Path.{ap₂}
use Rattle.std.specs.Prelude.{if◌then◌else◌, slice_get, nat_lt, option_and_then, option_map}
use Rattle.std.specs.Result.{result_ok}
use Rattle.std.proofs.lemmas.Option.{none-some, same_Some, option_and_then_some}
use Rattle.np_frac.specs.Fractions.{plus}
use Rattle.np_model.specs.declared.task.Action.{Action}
use Rattle.np_model.specs.declared.task.Step.{Step}
use Rattle.np_model.specs.declared.task.TaskParts.{TaskParts}
use Rattle.np_model.specs.States.{State, state_of}
use Rattle.np_model.specs.Values.{of_both}
use Rattle.np_model.specs.Conditions.{holds}
use Rattle.np_model.specs.Steps.{takes, is_applicable, next, cost_between}
use Rattle.np_model.specs.Plans.{start_values, start_of, is_goal, run_from, cost_from}
use Rattle.np_model.specs.Tasks.{FixedIsStatic, names_predicate, names_function}
use Rattle.np_linear.specs.declared.linear.Linear.{Linear}
use Rattle.np_linear.specs.declared.finding.Finding.{Finding}
use Rattle.np_linear.specs.declared.finding.Finding.TheVariants.{Fails, Missing, NotLinear, Wide}
use Rattle.np_linear.proofs.Chains.{goes_on, same_Ok, cause_answers}
use Rattle.np_bind.specs.declared.limits.TheConstants.{MOST_BINDINGS}
use Rattle.np_bind.specs.declared.bound.BoundCond.{BoundCond}
use Rattle.np_bind.specs.declared.bound.BoundStep.{BoundStep}
use Rattle.np_bind.specs.declared.bound.BoundParts.{BoundParts}
use Rattle.np_bind.specs.declared.bound.BindFault.{BindFault}
use Rattle.np_bind.specs.declared.bound.BindFault.TheVariants.{TooManyTuples, MetricUndefined, GoalUndefined}
use Rattle.np_bind.specs.declared.bound.Spot.{Spot}
use Rattle.np_bind.specs.declared.bound.Spot.TheVariants.{Goal, Metric}
use Rattle.np_bind.specs.Grounding.{left_of_condition, or_never, left_of_goal, bound_step, linear_metric}
use Rattle.np_bind.specs.Bindings.{steps_from, binding_counts}
use Rattle.np_bind.specs.Binding.{at_spot, kept_from, bound_from, bind_task}
use Rattle.np_bind.specs.BoundPlans.{is_bound_applicable, bound_after, bound_next_of, step_among, bound_next, bound_run_from, bound_cost, bound_cost_from, bound_start, is_bound_goal}
use Rattle.np_bind.proofs.LeftConditions.{Follows, IfFalse, Says, condition_says, conditions_say, never_says}
use Rattle.np_bind.proofs.StepsTaken.{StepSays, step_says, same_after, follows_after, cost_says, is_step_of}
use Rattle.np_bind.proofs.Enumeration.{taken_by, among_steps}
use Rattle.np_bind.proofs.KeptSteps.{IsDrop, Settled, all_named, answer, kept_among, kept_settled}

-- what a bound task comes from
pub record Binds (task : TaskParts) (bound : BoundParts) : Type 0 where
  pub atoms : bound.atoms ≡ task.atoms
  pub values : bound.values ≡ start_values task
  pub metric : Option Linear
  pub metric_is : linear_metric task (start_values task) task.metric ≡ Ok metric
  pub steps : kept_from task (start_values task) metric [] (steps_from task 0 task.actions) ≡ Ok bound.steps
  pub goal : left_of_goal task (start_values task) ≡ Ok bound.goal

-- an answer at a spot
at_spot_ok : {A : Type 0} (spot : Spot) (fault : BindFault) (r : Result A Finding) (x : A) → at_spot spot fault r ≡ Ok x → r ≡ Ok x
at_spot_ok spot fault (Ok y) x e = ap (λ z. Ok z) (same_Ok y x e)
at_spot_ok spot fault (Err Fails) x e = cause_answers _ x e
at_spot_ok spot fault (Err Missing) x e = cause_answers _ x e
at_spot_ok spot fault (Err NotLinear) x e = cause_answers _ x e
at_spot_ok spot fault (Err Wide) x e = cause_answers _ x e

pub binds_from : (task : TaskParts) (bound : BoundParts) → bind_task task ≡ Ok bound → Binds task bound
unfolding bind_task
binds_from task bound e = by_count (nat_lt MOST_BINDINGS (binding_counts task task.actions)) e
  where
    by_count : (b : Bool) → (if b then Err TooManyTuples else bound_from task (start_values task)) ≡ Ok bound → Binds task bound
    by_count true e = cause_answers _ bound e
    by_count false e =
        goes_on (at_spot Metric MetricUndefined (linear_metric task (start_values task) task.metric)) _ bound e (λ metric one more.
        goes_on (kept_from task (start_values task) metric [] (steps_from task 0 task.actions)) _ bound more (λ steps two further.
        goes_on (at_spot Goal GoalUndefined (left_of_goal task (start_values task))) _ bound further (λ goal three is.
        let same : record { atoms = task.atoms; values = start_values task; steps = steps; goal = goal } ≡ bound = same_Ok _ bound is in
        record {
          atoms = ap (λ (b : BoundParts). b.atoms) (sym same);
          values = ap (λ (b : BoundParts). b.values) (sym same);
          metric = metric;
          metric_is = at_spot_ok Metric MetricUndefined _ metric one;
          steps = two ∙ ap (λ (b : BoundParts). Ok b.steps) same;
          goal = at_spot_ok Goal GoalUndefined _ goal three ∙ ap (λ (b : BoundParts). Ok b.goal) same;
        })))

-- the start of a bound task is that of its task
pub start_is : (task : TaskParts) (bound : BoundParts) → Binds task bound → start_of task ≡ bound_start bound
unfolding start_of
start_is task bound h = ap₂ state_of (sym h.atoms) (sym h.values)

-- ---- one step

-- what is kept of a step of an action, where it is tried
abbrev answer_if : TaskParts → Option Linear → Step → Option Action → Bool → Option BoundStep
answer_if task metric step o b = if b then answer task (start_values task) metric step o else None

-- a step leads to the same state, which follows the start too, at the same cost
pub record SameStep (task : TaskParts) (bound : List BoundStep) (step : Step) (s : State) : Type 0 where
  pub leads : next task step s ≡ bound_next bound step s
  pub follows : (t : State) → bound_next bound step s ≡ Some t → Follows task (start_values task) t × (cost_between task.metric s t ≡ bound_cost bound step)

-- a step that neither has
no_step : (task : TaskParts) (bound : List BoundStep) (step : Step) (s : State) → next task step s ≡ None → step_among bound step ≡ None → SameStep task bound step s
no_step task bound step s e f = record {
  leads = e ∙ sym (ap (option_and_then (λ b. bound_next_of b s)) f);
  follows = λ t g. absurd (none-some t (sym (ap (option_and_then (λ b. bound_next_of b s)) f) ∙ g));
}

-- each step is the same in both
pub step_same : (task : TaskParts) (bound : BoundParts) (step : Step) (s : State)
    → FixedIsStatic task names_predicate task.predicates → FixedIsStatic task names_function task.functions
    → Binds task bound → Follows task (start_values task) s → SameStep task bound.steps step s
unfolding next
step_same task bound step s fp ff h f = by_action (slice_get task.actions step.action) refl
  where
    among : (o : Option Action) → slice_get task.actions step.action ≡ o
        → step_among bound.steps step ≡ answer_if task h.metric step o (taken_by task step.objects o)
    among o at =
        kept_among task (start_values task) h.metric step (steps_from task 0 task.actions) (all_named task) [] bound.steps h.steps
        ∙ ap (answer_if task h.metric step (slice_get task.actions step.action)) (among_steps task step)
        ∙ ap (λ p. answer_if task h.metric step p (taken_by task step.objects p)) at

    by_read : (action : Action) → slice_get task.actions step.action ≡ Some action → takes task action step.objects ≡ true
        → (r : Result BoundStep Finding) → bound_step task (start_values task) h.metric step action ≡ r → Settled r → StepSays step action s r
        → SameStep task bound.steps step s
    by_read action at fits (Ok b) is settled says =
        let there : step_among bound.steps step ≡ Some b = among (Some action) at ∙ ap (answer_if task h.metric step (Some action)) fits ∙ ap result_ok is in
        let after : Follows task (start_values task) (bound_after b s) = follows_after task (start_values task) step action s b fp ff at says f in
        let costs : cost_between task.metric s (bound_after b s) ≡ Some b.cost = cost_says task (start_values task) h.metric step action s b b.cost f after says task.metric h.metric_is ((is_step_of task (start_values task) h.metric step action b is).costs) in
        record {
          leads = rw (at, fits, there) (rw says.applicable (ap (λ t. if is_bound_applicable b s then Some t else None) (same_after step action s b says)));
          follows = λ t e. by_can b (is_bound_applicable b s) t after (costs ∙ ap (option_map (λ c. c.cost)) (sym there)) (sym (ap (option_and_then (λ c. bound_next_of c s)) there) ∙ e);
        }
      where
        by_can : (b : BoundStep) (c : Bool) (t : State) → Follows task (start_values task) (bound_after b s) → cost_between task.metric s (bound_after b s) ≡ bound_cost bound.steps step
            → (if c then Some (bound_after b s) else None) ≡ Some t → Follows task (start_values task) t × (cost_between task.metric s t ≡ bound_cost bound.steps step)
        by_can b true t after costs e =
            let same : bound_after b s ≡ t = same_Some _ t e in
            (subst (λ (u : State). Follows task (start_values task) u) same after, ap (cost_between task.metric s) (sym same) ∙ costs)
        by_can b false t after costs e = absurd (none-some t e)
    by_read action at fits (Err n) is settled says =
        no_step task bound.steps step s
        (rw (at, fits) (rw (not_applicable n (is_applicable action step.objects s) settled says) refl))
        (among (Some action) at ∙ ap (answer_if task h.metric step (Some action)) fits ∙ ap result_ok is)
      where
        not_applicable : (n : Finding) (b : Bool) → IsDrop n → IfFalse n b → b ≡ false
        not_applicable Fails b d e = e
        not_applicable Missing b d e = e
        not_applicable NotLinear b d e = absurd d
        not_applicable Wide b d e = absurd d

    by_takes : (action : Action) → slice_get task.actions step.action ≡ Some action → (b : Bool) → takes task action step.objects ≡ b → SameStep task bound.steps step s
    by_takes action at true fits =
        by_read action at fits (bound_step task (start_values task) h.metric step action) refl
        (kept_settled task (start_values task) h.metric step action (steps_from task 0 task.actions) (all_named task) [] bound.steps h.steps at
        (among_steps task step ∙ ap (taken_by task step.objects) at ∙ fits))
        (step_says task (start_values task) h.metric step action s f)
    by_takes action at false fits =
        no_step task bound.steps step s (rw (at, fits) refl)
        (among (Some action) at ∙ ap (answer_if task h.metric step (Some action)) fits)

    by_action : (o : Option Action) → slice_get task.actions step.action ≡ o → SameStep task bound.steps step s
    by_action None at = no_step task bound.steps step s (rw at refl) (among None at)
    by_action (Some action) at = by_takes action at (takes task action step.objects) refl

-- ---- lists of steps

then_same : {A B : Type 0} (f g : A → Option B) (o p : Option A) → o ≡ p → ((x : A) → p ≡ Some x → f x ≡ g x) → option_and_then f o ≡ option_and_then g p
then_same f g o None e h = ap (option_and_then f) e
then_same f g o (Some x) e h = ap (option_and_then f) e ∙ h x refl

-- lists of steps end in the same state
pub same_run : (task : TaskParts) (bound : BoundParts)
    → FixedIsStatic task names_predicate task.predicates → FixedIsStatic task names_function task.functions → Binds task bound
    → (steps : List Step) (s : State) → Follows task (start_values task) s → run_from task steps s ≡ bound_run_from bound.steps steps s
same_run task bound fp ff h [] s f = refl
same_run task bound fp ff h (x ∷ xs) s f =
    let one = step_same task bound x s fp ff h f in
    then_same (run_from task xs) (bound_run_from bound.steps xs) (next task x s) (bound_next bound.steps x s) one.leads (λ t e. same_run task bound fp ff h xs t ((one.follows t e).0))

-- at the same cost
pub same_cost : (task : TaskParts) (bound : BoundParts)
    → FixedIsStatic task names_predicate task.predicates → FixedIsStatic task names_function task.functions → Binds task bound
    → (steps : List Step) (s : State) → Follows task (start_values task) s → cost_from task steps s ≡ bound_cost_from bound.steps steps s
same_cost task bound fp ff h [] s f = refl
same_cost task bound fp ff h (x ∷ xs) s f =
    let one = step_same task bound x s fp ff h f in
    then_same (λ t. of_both plus (cost_between task.metric s t) (cost_from task xs t)) (λ t. of_both plus (bound_cost bound.steps x) (bound_cost_from bound.steps xs t)) (next task x s) (bound_next bound.steps x s) one.leads
    (λ t e. ap (λ c. of_both plus c (cost_from task xs t)) ((one.follows t e).1) ∙ ap (of_both plus (bound_cost bound.steps x)) (same_cost task bound fp ff h xs t ((one.follows t e).0)))

-- which follows the start
pub run_follows : (task : TaskParts) (bound : BoundParts)
    → FixedIsStatic task names_predicate task.predicates → FixedIsStatic task names_function task.functions → Binds task bound
    → (steps : List Step) (s t : State) → Follows task (start_values task) s → bound_run_from bound.steps steps s ≡ Some t → Follows task (start_values task) t
run_follows task bound fp ff h [] s t f e = subst (λ (u : State). Follows task (start_values task) u) (same_Some s t e) f
run_follows task bound fp ff h (x ∷ xs) s t f e =
    option_and_then_some (bound_run_from bound.steps xs) (bound_next bound.steps x s) t e
    (λ u first more. run_follows task bound fp ff h xs u t (((step_same task bound x s fp ff h f).follows u first).0) more)

-- the goal holds in both or in none
pub same_goal : (task : TaskParts) (bound : BoundParts) (s : State) → Binds task bound → Follows task (start_values task) s → is_goal task s ≡ is_bound_goal bound s
same_goal task bound s h f =
    said (left_of_goal task (start_values task)) h.goal
    (conditions_say s (holds [] s) (λ c. or_never (left_of_condition task (start_values task) [] c)) (λ c. never_says s (holds [] s c) (left_of_condition task (start_values task) [] c) (condition_says task (start_values task) [] s f c)) task.goal)
  where
    said : (r : Result (List BoundCond) Finding) → r ≡ Ok bound.goal → Says s (is_goal task s) r → is_goal task s ≡ is_bound_goal bound s
    said r e h = subst (λ (q : Result (List BoundCond) Finding). Says s (is_goal task s) q) e h
