-- What is computed of a list of steps is the answer in the words of planning, and there is one such answer.
use Rattle.std.proofs.Common.{◌≡◌, ℕ, ◌+◌, Bool, true, false, refl, sym, ◌∙◌, ap, subst, arith, List, [], ◌∷◌, ◌++◌, append_assoc, length, Option, Some, None, Ok, Err, Result}
use Rattle.std.specs.Prelude.{All, IsTrue, IfOk, IsSome, is_some, option_and_then}
use Rattle.std.proofs.lemmas.Option.{none-some, same_Some}
use Rattle.std.proofs.lemmas.List.Elements.{All-head, All-tail}
use Rattle.np_frac.specs.Fractions.{Fraction, plus}
use Rattle.np_frac.specs.Field.{plus-zero, plus_left_zero, plus_assoc}
use Rattle.np_model.specs.declared.task.Sum.{Sum}
use Rattle.np_model.specs.declared.task.Step.{Step}
use Rattle.np_model.specs.declared.task.TaskParts.{TaskParts}
use Rattle.np_model.specs.States.{State}
use Rattle.np_model.specs.Values.{of_both, value_of}
use Rattle.np_model.specs.Steps.{is_step, next, cost_between}
use Rattle.np_model.specs.Plans.{start_of, run_from, cost_from, is_goal}
use Rattle.np_model.proofs.Runs.{run_more, cost_more}
use Rattle.np_run.specs.declared.answers.RunEnd.{RunEnd}
use Rattle.np_run.specs.declared.answers.RunEnd.TheVariants as end
use Rattle.np_run.specs.declared.answers.RunFault.{RunFault}
use Rattle.np_run.specs.declared.halt.Lack.{Lack}
use Rattle.np_run.specs.declared.halt.Lack.TheVariants as lack
use Rattle.np_run.specs.declared.halt.Pause.{Pause}
use Rattle.np_run.specs.declared.halt.Pause.TheVariants.{Stuck, NoCost, Wide}
use Rattle.np_run.specs.Computing.{zero, computed_value, computed_all_hold}
use Rattle.np_run.specs.Taking.{Progress, or_none, computed_metric, with_step, goal_answer, or_paused, run_on, run_with, outcome_of, IsOutcome}
use Rattle.np_run.specs.RunAnswers.{RunsTo, Says, IsAnswer}
use Rattle.np_run.proofs.Agreeing.{Means, value_means, Tells, all_hold_tells}
use Rattle.np_run.proofs.Going.{MetricIs, StepSays, step_says}

-- ---- the answer, by the exact values

-- the answer at the end of the steps
abbrev pub goal_end : Bool → Fraction → RunEnd
goal_end true cost = end.Goal cost
goal_end false cost = end.NoGoal

-- the answer from a state on, where the steps before cost this, and the next one has this number
abbrev pub end_paid : ℕ → Option Fraction → (Fraction → RunEnd) → RunEnd
end_paid n None f = end.NoCost n
end_paid n (Some more) f = f more

abbrev pub end_next : ℕ → Option State → (State → RunEnd) → RunEnd
end_next n None f = end.Stuck n
end_next n (Some t) f = f t

abbrev pub end_from : TaskParts → ℕ → Fraction → List Step → State → RunEnd
end_from task n cost [] s = goal_end (is_goal task s) cost
end_from task n cost (step ∷ steps) s =
    end_next n (next task step s) (λ t. end_paid n (cost_between task.metric s t) (λ more. end_from task (n + 1) (plus cost more) steps t))

-- ---- what is computed is that

-- an answer that is computed is this one
abbrev pub Ends : Result RunEnd RunFault → RunEnd → Type 0
Ends (Ok e) f = e ≡ f
Ends (Err fault) f = Unit {0}

goal_ends : (task : TaskParts) (n : ℕ) (r : Progress) → Ends (goal_answer n r.cost (computed_all_hold [] r.state task.goal)) (goal_end (is_goal task r.state) r.cost)
goal_ends task n r = by (computed_all_hold [] r.state task.goal) (all_hold_tells [] r.state task.goal)
  where
    by : (x : Result Bool Lack) → Tells (is_goal task r.state) x → Ends (goal_answer n r.cost x) (goal_end (is_goal task r.state) r.cost)
    by (Ok true) e = rw e refl
    by (Ok false) e = rw e refl
    by (Err lack.Missing) e = rw e refl
    by (Err lack.Wide) e = tt

run_ends : (task : TaskParts) (n : ℕ) (steps : List Step) (r : Progress) → All (λ step. IsTrue (is_step task step)) steps → MetricIs task.metric r.state r.metric
    → Ends (run_on task n steps r) (end_from task n r.cost steps r.state)
run_ends task n [] r all h = goal_ends task n r
run_ends task n (step ∷ steps) r all h =
    by (with_step task step r) (step_says task step r (All-head (λ x. IsTrue (is_step task x)) step steps all) h)
    (λ q. run_ends task (n + 1) steps q (All-tail (λ x. IsTrue (is_step task x)) step steps all))
  where
    by : (x : Result Progress Pause) → StepSays task step r x
        → ((q : Progress) → MetricIs task.metric q.state q.metric → Ends (run_on task (n + 1) steps q) (end_from task (n + 1) q.cost steps q.state))
        → Ends (or_paused n x (λ q. run_on task (n + 1) steps q)) (end_from task n r.cost (step ∷ steps) r.state)
    by (Ok q) k later = rw (k.leads, k.costs, ← k.total) (later q k.kept)
    by (Err Stuck) k later = rw k refl
    by (Err NoCost) k later = rw (k.leads, k.no_cost) refl
    by (Err Wide) k later = tt

abbrev ok_metric : Option Fraction → Result (Option Fraction) Lack
ok_metric o = Ok o

same_metric : (a b : Option Fraction) → ok_metric a ≡ ok_metric b → a ≡ b
same_metric a b e = cc

abbrev ok_end : RunEnd → Result RunEnd RunFault
ok_end e = Ok e

same_end : (e f : RunEnd) → ok_end e ≡ ok_end f → e ≡ f
same_end e f is = cc

-- the metric at the start
metric_is : (metric : Option Sum) (s : State) (m : Option Fraction) → computed_metric metric s ≡ Ok m → MetricIs metric s m
metric_is None s m e = tt
metric_is (Some metric) s m e = by (computed_value [] s metric) (value_means [] s metric) e
  where
    by : (x : Result Fraction Lack) → Means (value_of [] s metric) x → or_none x ≡ Ok m → value_of [] s metric ≡ m
    by (Ok v) k d = k ∙ same_metric (Some v) m d
    by (Err lack.Missing) k d = k ∙ same_metric None m d
    by (Err lack.Wide) k d = cc

outcome_ends : (task : TaskParts) (steps : List Step) → All (λ step. IsTrue (is_step task step)) steps → Ends (outcome_of task steps) (end_from task 1 zero steps (start_of task))
outcome_ends task [] all = goal_ends task 1 (record { state = start_of task; metric = None; cost = zero })
outcome_ends task (step ∷ steps) all = by (computed_metric task.metric (start_of task)) refl
  where
    never : (metric : Option Sum) (s : State) → computed_metric metric s ≡ Err lack.Missing → ⊥
    never None s e = cc
    never (Some metric) s e = value (computed_value [] s metric) e
      where
        value : (x : Result Fraction Lack) → or_none x ≡ Err lack.Missing → ⊥
        value (Ok v) e = cc
        value (Err lack.Missing) e = cc
        value (Err lack.Wide) e = cc

    by : (x : Result (Option Fraction) Lack) → computed_metric task.metric (start_of task) ≡ x → Ends (run_with task (step ∷ steps) x) (end_from task 1 zero (step ∷ steps) (start_of task))
    by (Ok m) e = run_ends task 1 (step ∷ steps) (record { state = start_of task; metric = m; cost = zero }) all (metric_is task.metric (start_of task) m e)
    by (Err lack.Missing) e = absurd (never task.metric (start_of task) e)
    by (Err lack.Wide) e = tt

-- ---- it is an answer

-- the steps so far, with their cost
pub record HasRun (task : TaskParts) (done : List Step) (s : State) (n : ℕ) (cost : Fraction) : Type 0 where
  pub runs : run_from task done (start_of task) ≡ Some s
  pub costs : cost_from task done (start_of task) ≡ Some cost
  pub number : n ≡ length done + 1

runs_to : (task : TaskParts) (done : List Step) (s : State) (n : ℕ) (cost : Fraction) → HasRun task done s n cost → RunsTo task done s
runs_to task done s n cost h = record { runs = h.runs; costs = ap is_some h.costs }

append_none : {A : Type 0} (xs : List A) → xs ++ [] ≡ xs
append_none [] = refl
append_none (x ∷ xs) = ap (λ ys. x ∷ ys) (append_none xs)

length_more : {A : Type 0} (xs : List A) (x : A) → length (xs ++ x ∷ []) ≡ length xs + 1
length_more [] x = omega arith
length_more (y ∷ xs) x = omega (arith, length_more xs x)

end_says : (task : TaskParts) (done steps : List Step) (s : State) (n : ℕ) (cost : Fraction) → HasRun task done s n cost → Says task (done ++ steps) (end_from task n cost steps s)
end_says task done [] s n cost h = rw append_none (by (is_goal task s) refl)
  where
    by : (b : Bool) → is_goal task s ≡ b → Says task done (goal_end b cost)
    by true e = record { end = s; runs = h.runs; goal = e; costs = h.costs }
    by false e = record { end = s; run = runs_to task done s n cost h; goal = e }
end_says task done (step ∷ steps) s n cost h =
    by_next (next task step s) refl (λ t more k. rw (← append_assoc done (step ∷ []) steps) (end_says task (done ++ step ∷ []) steps t (n + 1) (plus cost more) k))
  where
    goes_on : (t : State) (more : Fraction) → next task step s ≡ Some t → cost_between task.metric s t ≡ Some more → HasRun task (done ++ step ∷ []) t (n + 1) (plus cost more)
    goes_on t more e d = record {
      runs = run_more task done step (start_of task) s h.runs ∙ e;
      costs = cost_more task done step (start_of task) s t h.runs e ∙ ap (λ c. of_both plus c (cost_between task.metric s t)) h.costs ∙ ap (of_both plus (Some cost)) d;
      number = omega (arith, h.number, length_more done step);
    }

    by_cost : (t : State) → next task step s ≡ Some t → (c : Option Fraction) → cost_between task.metric s t ≡ c
        → ((t : State) (more : Fraction) → HasRun task (done ++ step ∷ []) t (n + 1) (plus cost more) → Says task (done ++ step ∷ steps) (end_from task (n + 1) (plus cost more) steps t))
        → Says task (done ++ step ∷ steps) (end_paid n c (λ more. end_from task (n + 1) (plus cost more) steps t))
    by_cost t e None d later = record {
      front = done;
      step = step;
      others = steps;
      parts = refl;
      number = h.number;
      before = s;
      after = t;
      run = runs_to task done s n cost h;
      leads = e;
      no_cost = d;
    }
    by_cost t e (Some more) d later = later t more (goes_on t more e d)

    by_next : (o : Option State) → next task step s ≡ o
        → ((t : State) (more : Fraction) → HasRun task (done ++ step ∷ []) t (n + 1) (plus cost more) → Says task (done ++ step ∷ steps) (end_from task (n + 1) (plus cost more) steps t))
        → Says task (done ++ step ∷ steps) (end_next n o (λ t. end_paid n (cost_between task.metric s t) (λ more. end_from task (n + 1) (plus cost more) steps t)))
    by_next None e later = record {
      front = done;
      step = step;
      others = steps;
      parts = refl;
      number = h.number;
      before = s;
      run = runs_to task done s n cost h;
      stuck = e;
    }
    by_next (Some t) e later = by_cost t e (cost_between task.metric s t) refl later

-- ---- no other is one

-- what the parts of a sum that is there are
both_there : {P : Type 0} (a b : Option Fraction) (c : Fraction) → of_both plus a b ≡ Some c
    → ((x y : Fraction) → a ≡ Some x → b ≡ Some y → plus x y ≡ c → P) → P
both_there None b c e k = absurd (none-some c e)
both_there (Some x) None c e k = absurd (none-some c e)
both_there (Some x) (Some y) c e k = k x y refl refl (same_Some (plus x y) c e)

-- the answer past steps that run and have costs
past : (task : TaskParts) (n : ℕ) (cost more : Fraction) (front steps : List Step) (s t : State) → run_from task front s ≡ Some t → cost_from task front s ≡ Some more
    → end_from task n cost (front ++ steps) s ≡ end_from task (n + length front) (plus cost more) steps t
past task n cost more [] steps s t e d =
    ap (λ u. end_from task n cost steps u) (same_Some s t e)
    ∙ ap (λ c. end_from task n c steps t) (sym (plus-zero cost) ∙ ap (plus cost) (same_Some zero more d))
    ∙ ap (λ m. end_from task m (plus cost more) steps t) none_more
  where
    none_more : n ≡ n + 0
    none_more = omega arith
past task n cost more (step ∷ front) steps s t e d = by (next task step s) e d (λ u x y. past task (n + 1) (plus cost x) y front steps u t)
  where
    one_more : (n + 1) + length front ≡ n + length (step ∷ front)
    one_more = omega arith

    by : (o : Option State) → option_and_then (run_from task front) o ≡ Some t
        → option_and_then (λ u. of_both plus (cost_between task.metric s u) (cost_from task front u)) o ≡ Some more
        → ((u : State) (x y : Fraction) → run_from task front u ≡ Some t → cost_from task front u ≡ Some y
        → end_from task (n + 1) (plus cost x) (front ++ steps) u ≡ end_from task ((n + 1) + length front) (plus (plus cost x) y) steps t)
        → end_next n o (λ u. end_paid n (cost_between task.metric s u) (λ m. end_from task (n + 1) (plus cost m) (front ++ steps) u))
        ≡ end_from task (n + length (step ∷ front)) (plus cost more) steps t
    by None e d later = absurd (none-some t e)
    by (Some u) e d later =
        both_there (cost_between task.metric s u) (cost_from task front u) more d
        (λ x y a b c. ap (λ o. end_paid n o (λ m. end_from task (n + 1) (plus cost m) (front ++ steps) u)) a
        ∙ later u x y e b
        ∙ ap (λ z. end_from task ((n + 1) + length front) z steps t) (plus_assoc cost x y ∙ ap (plus cost) c)
        ∙ ap (λ m. end_from task m (plus cost more) steps t) one_more)

-- what is there is some value
some_of : {P : Type 0} (o : Option Fraction) → IsSome o → ((x : Fraction) → o ≡ Some x → P) → P
some_of None h k = absurd (not_there h)
  where
    not_there : false ≡ true → ⊥
    not_there e = cc
some_of (Some x) h k = k x refl

-- the answer at the end of steps that run and have costs
at_end : (task : TaskParts) (steps : List Step) (s : State) (cost : Fraction) → run_from task steps (start_of task) ≡ Some s → cost_from task steps (start_of task) ≡ Some cost
    → end_from task 1 zero steps (start_of task) ≡ goal_end (is_goal task s) cost
at_end task steps s cost e d =
    ap (λ xs. end_from task 1 zero xs (start_of task)) (sym (append_none steps))
    ∙ past task 1 zero cost steps [] (start_of task) s e d
    ∙ ap (goal_end (is_goal task s)) (plus_left_zero cost)

-- the answer where the steps before run and have costs
at_step : (task : TaskParts) (steps front : List Step) (step : Step) (others : List Step) (s : State) → steps ≡ front ++ step ∷ others → RunsTo task front s
    → {P : Type 0} → ((cost : Fraction) → end_from task 1 zero steps (start_of task) ≡ end_from task (1 + length front) cost (step ∷ others) s → P) → P
at_step task steps front step others s parts run k =
    some_of (cost_from task front (start_of task)) run.costs
    (λ x d. k (plus zero x)
    (ap (λ xs. end_from task 1 zero xs (start_of task)) parts ∙ past task 1 zero x front (step ∷ others) (start_of task) s run.runs d))

number_is : (n m : ℕ) → n ≡ m + 1 → n ≡ 1 + m
number_is n m e = omega arith

only_one : (task : TaskParts) (steps : List Step) (e : RunEnd) → Says task steps e → e ≡ end_from task 1 zero steps (start_of task)
only_one task steps (end.Goal cost) h = sym (at_end task steps h.end cost h.runs h.costs ∙ ap (λ b. goal_end b cost) h.goal)
only_one task steps end.NoGoal h =
    some_of (cost_from task steps (start_of task)) h.run.costs
    (λ x d. sym (at_end task steps h.end x h.run.runs d ∙ ap (λ b. goal_end b x) h.goal))
only_one task steps (end.Stuck n) h =
    at_step task steps h.front h.step h.others h.before h.parts h.run
    (λ cost e. ap end.Stuck (number_is n (length h.front) h.number)
    ∙ sym (e ∙ ap (λ o. end_next (1 + length h.front) o (λ t. end_paid (1 + length h.front) (cost_between task.metric h.before t) (λ more. end_from task ((1 + length h.front) + 1) (plus cost more) h.others t))) h.stuck))
only_one task steps (end.NoCost n) h =
    at_step task steps h.front h.step h.others h.before h.parts h.run
    (λ cost e. ap end.NoCost (number_is n (length h.front) h.number)
    ∙ sym (e
    ∙ ap (λ o. end_next (1 + length h.front) o (λ t. end_paid (1 + length h.front) (cost_between task.metric h.before t) (λ more. end_from task ((1 + length h.front) + 1) (plus cost more) h.others t))) h.leads
    ∙ ap (λ c. end_paid (1 + length h.front) c (λ more. end_from task ((1 + length h.front) + 1) (plus cost more) h.others h.after)) h.no_cost))

-- ---- together

starts : (task : TaskParts) → HasRun task [] (start_of task) 1 zero
starts task = record { runs = refl; costs = refl; number = refl }

same_answer : (task : TaskParts) (steps : List Step) → IsAnswer task steps (end_from task 1 zero steps (start_of task))
same_answer task steps = record { true_of = end_says task [] steps (start_of task) 1 zero (starts task); only = only_one task steps }

-- what the code answers is the answer in the words of planning
pub answer_from_outcome : (task : TaskParts) (steps : List Step) (given : Result RunEnd RunFault) → IsOutcome given (outcome_of task steps)
    → All (λ step. IsTrue (is_step task step)) steps → IfOk given (λ e. IsAnswer task steps e)
answer_from_outcome task steps (Ok e) h all = subst (IsAnswer task steps) (sym (ends (outcome_of task steps) h (outcome_ends task steps all))) (same_answer task steps)
  where
    ends : (x : Result RunEnd RunFault) → x ≡ Ok e → Ends x (end_from task 1 zero steps (start_of task)) → e ≡ end_from task 1 zero steps (start_of task)
    ends (Ok f) is k = sym (same_end f e is) ∙ k
    ends (Err fault) is k = cc
answer_from_outcome task steps (Err fault) h all = tt
