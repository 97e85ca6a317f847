-- What steps, runs and plans give and are made from.
use Rattle.std.proofs.Common.{◌≡◌, pos, Bool, true, false, refl, sym, ◌∙◌, ap, List, [], ◌∷◌, ◌++◌}
use Rattle.std.specs.Prelude.{Option, Some, None, if◌then◌else◌, IsTrue, slice_get, option_and_then}
use Rattle.std.proofs.lemmas.Option.{option_and_then_some, none-some, same_Some}
use Rattle.np_frac.specs.Fractions.{Fraction, whole, plus}
use Rattle.np_model.specs.declared.task.Action.{Action}
use Rattle.np_model.specs.declared.task.Step.{Step}
use Rattle.np_model.specs.declared.task.TaskParts.{TaskParts}
use Rattle.np_model.specs.States.{State}
use Rattle.np_model.specs.Values.{of_both}
use Rattle.np_model.specs.Steps.{takes, action_of, is_applicable, result_of, next, cost_between}
use Rattle.np_model.specs.Plans.{start_of, is_goal, run_from, cost_from, IsRun, IsPlanFrom, IsPlan, Reaches}
use Rattle.np_model.proofs.Sums.{sum_assoc, sum_zero, sum_left_zero}

-- a step is taken: its action, which takes its objects and is applicable, leads from one state to the other
pub record IsTaken (task : TaskParts) (step : Step) (s t : State) : Type 0 where
  pub action : Action
  pub named : slice_get task.actions step.action ≡ Some action
  pub taken : IsTrue (takes task action step.objects)
  pub applicable : IsTrue (is_applicable action step.objects s)
  pub result : result_of action step.objects s ≡ t

-- what a choice that gives a value says
chosen : {A P : Type 0} (b : Bool) (x y : A) → (if b then Some x else None) ≡ Some y → (b ≡ true → x ≡ y → P) → P
chosen true x y e k = k refl (same_Some x y e)
chosen false x y e k = absurd (none-some y e)

pub taken_from_next : (task : TaskParts) (step : Step) (s t : State) → next task step s ≡ Some t → IsTaken task step s t
unfolding next
taken_from_next task step s t e =
    option_and_then_some _ (action_of task step) t e
    (λ a named rest. option_and_then_some _ (slice_get task.actions step.action) a named
    (λ b at fits. chosen (takes task b step.objects) b a fits
    (λ yes same. chosen (is_applicable a step.objects s) (result_of a step.objects s) t rest
    (λ goes result. record {
      action = a;
      named = at ∙ ap Some same;
      taken = ap (λ x. takes task x step.objects) (sym same) ∙ yes;
      applicable = goes;
      result = result;
    }))))

pub next_from_taken : (task : TaskParts) (step : Step) (s t : State) → IsTaken task step s t → next task step s ≡ Some t
unfolding next
next_from_taken task step s t h = rw (h.named, h.taken, h.applicable) (ap Some h.result)

-- a run that begins with a step
pub run_step : (task : TaskParts) (step : Step) (steps : List Step) (s t : State) → next task step s ≡ Some t → run_from task (step ∷ steps) s ≡ run_from task steps t
run_step task step steps s t e = ap (option_and_then (run_from task steps)) e

-- the cost of a run that begins with a step
pub cost_step : (task : TaskParts) (step : Step) (steps : List Step) (s t : State) → next task step s ≡ Some t → cost_from task (step ∷ steps) s ≡ of_both plus (cost_between task.metric s t) (cost_from task steps t)
cost_step task step steps s t e = ap (option_and_then (λ u. of_both plus (cost_between task.metric s u) (cost_from task steps u))) e

and_then_assoc : {A B C : Type 0} (f : A → Option B) (g : B → Option C) (o : Option A) → option_and_then g (option_and_then f o) ≡ option_and_then (λ x. option_and_then g (f x)) o
and_then_assoc f g None = refl
and_then_assoc f g (Some x) = refl

and_then_same : {A B : Type 0} (f g : A → Option B) (o : Option A) → ((x : A) → f x ≡ g x) → option_and_then f o ≡ option_and_then g o
and_then_same f g None e = refl
and_then_same f g (Some x) e = e x

and_then_some : {A : Type 0} (o : Option A) → option_and_then (λ x. Some x) o ≡ o
and_then_some None = refl
and_then_some (Some x) = refl

-- a run of two parts is a run of the first, and of the second from where that ends
pub run_append : (task : TaskParts) (xs ys : List Step) (s : State) → run_from task (xs ++ ys) s ≡ option_and_then (run_from task ys) (run_from task xs s)
run_append task [] ys s = refl
run_append task (x ∷ xs) ys s =
    and_then_same (λ t. run_from task (xs ++ ys) t) (λ t. option_and_then (run_from task ys) (run_from task xs t)) (next task x s) (λ t. run_append task xs ys t)
    ∙ sym (and_then_assoc (run_from task xs) (run_from task ys) (next task x s))

-- a run with one more step
pub run_more : (task : TaskParts) (steps : List Step) (step : Step) (s t : State) → run_from task steps s ≡ Some t → run_from task (steps ++ step ∷ []) s ≡ next task step t
run_more task steps step s t e =
    run_append task steps (step ∷ []) s ∙ ap (option_and_then (run_from task (step ∷ []))) e ∙ and_then_some (next task step t)

-- the cost of a run of two parts
pub cost_append : (task : TaskParts) (xs ys : List Step) (s t : State) → run_from task xs s ≡ Some t → cost_from task (xs ++ ys) s ≡ of_both plus (cost_from task xs s) (cost_from task ys t)
cost_append task [] ys s t e = ap (cost_from task ys) (same_Some s t e) ∙ sym (sum_left_zero (cost_from task ys t))
cost_append task (x ∷ xs) ys s t e =
    option_and_then_some (run_from task xs) (next task x s) t e
    (λ u first rest. rw first
    (ap (of_both plus (cost_between task.metric s u)) (cost_append task xs ys u t rest)
    ∙ sym (sum_assoc (cost_between task.metric s u) (cost_from task xs u) (cost_from task ys t))))

-- the cost of a run with one more step
pub cost_more : (task : TaskParts) (steps : List Step) (step : Step) (s t u : State) → run_from task steps s ≡ Some t → next task step t ≡ Some u → cost_from task (steps ++ step ∷ []) s ≡ of_both plus (cost_from task steps s) (cost_between task.metric t u)
cost_more task steps step s t u e f =
    cost_append task steps (step ∷ []) s t e
    ∙ ap (of_both plus (cost_from task steps s)) (rw f (sum_zero (cost_between task.metric t u)))

-- the start is reached at no cost
pub reaches_start : (task : TaskParts) → Reaches task (start_of task) (whole (pos 0))
reaches_start task = record { steps = []; runs = refl; costs = refl }

-- a step leads on from a state that is reached
pub reaches_next : (task : TaskParts) (step : Step) (s t : State) (cost more : Fraction) → Reaches task s cost → next task step s ≡ Some t → cost_between task.metric s t ≡ Some more → Reaches task t (plus cost more)
reaches_next task step s t cost more r e f = record {
  steps = r.steps ++ step ∷ [];
  runs = run_more task r.steps step (start_of task) s r.runs ∙ e;
  costs = cost_more task r.steps step (start_of task) s t r.runs e ∙ ap (λ c. of_both plus c (cost_between task.metric s t)) r.costs ∙ ap (of_both plus (Some cost)) f;
}

-- the end of a plan is reached at the plan's cost
pub reaches_end : (task : TaskParts) (steps : List Step) (cost : Fraction) (p : IsPlan task steps cost) → Reaches task p.end cost
reaches_end task steps cost p = record { steps = steps; runs = p.runs; costs = p.costs }

-- the steps to a state in which the goal holds are a plan
pub plan_from : (task : TaskParts) (s : State) (cost : Fraction) (r : Reaches task s cost) → IsTrue (is_goal task s) → IsPlan task r.steps cost
plan_from task s cost r g = record { end = s; runs = r.runs; goal = g; costs = r.costs }

-- a plan has one cost
pub one_cost : (task : TaskParts) (steps : List Step) (c d : Fraction) → IsPlan task steps c → IsPlan task steps d → c ≡ d
one_cost task steps c d p q = same_Some c d (sym p.costs ∙ q.costs)

-- a run to a state and a plan from there are a plan, and cost what both cost together
pub plan_append : (task : TaskParts) (xs ys : List Step) (s t : State) (c d : Fraction) → run_from task xs s ≡ Some t → cost_from task xs s ≡ Some c → IsPlanFrom task t ys d → IsPlanFrom task s (xs ++ ys) (plus c d)
plan_append task xs ys s t c d e f p = record {
  end = p.end;
  runs = run_append task xs ys s ∙ ap (option_and_then (run_from task ys)) e ∙ p.runs;
  goal = p.goal;
  costs = cost_append task xs ys s t e ∙ ap (λ o. of_both plus o (cost_from task ys t)) f ∙ ap (of_both plus (Some c)) p.costs;
}

-- a run that has a cost ends somewhere
pub run_from_cost : (task : TaskParts) (steps : List Step) (s : State) (cost : Fraction) → cost_from task steps s ≡ Some cost → IsRun task steps s
run_from_cost task [] s cost e = refl
run_from_cost task (x ∷ xs) s cost e =
    option_and_then_some _ (next task x s) cost e
    (λ t first rest. rw first (both_there (cost_between task.metric s t) (cost_from task xs t) cost rest (λ d tail. run_from_cost task xs t d tail)))
  where
    both_there : {P : Type 0} (a b : Option Fraction) (c : Fraction) → of_both plus a b ≡ Some c → ((d : Fraction) → b ≡ Some d → P) → P
    both_there None b c e k = absurd (none-some c e)
    both_there (Some x) None c e k = absurd (none-some c e)
    both_there (Some x) (Some y) c e k = k y refl
