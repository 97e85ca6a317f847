-- How far a run of steps has come: it goes on by a step, its values and its cost stay small, and what its end says.
use Rattle.std.proofs.Common.{◌≡◌, ℕ, ◌+◌, ◌*◌, ◌^◌, ◌<◌, ◌≤◌, Bool, true, false, List, [], ◌∷◌, ◌++◌, length, map, take, unsigned_abs, Option, None, Some, refl, sym, ap, ◌∙◌, subst, arith}
use Rattle.std.specs.Prelude.{slice_get}
use Rattle.std.specs.Option.{option_map_or, option_and_then}
use Rattle.std.specs.Prelude.{min, Result, Ok, Err, IfOk}
use Rattle.std.proofs.lemmas.List.{length-map, length-take, map-append}
use Rattle.std.proofs.lemmas.List.Elements.{All-weaker}
use Rattle.std.proofs.lemmas.Option.{option_and_then_some}
use Rattle.np_model.specs.declared.task.Step.{Step}
use Rattle.np_flat.specs.declared.state.FlatState.{FlatState}
use Rattle.np_flat.specs.declared.parts.FlatStep.{FlatStep}
use Rattle.np_flat.specs.declared.parts.Parts.{Parts}
use Rattle.np_flat.specs.Flats.{IsFlat, AreSmall}
use Rattle.np_flat.specs.States.{is_goal, is_applicable, next}
use Rattle.np_flat.specs.Plans.{run_from, cost_of, cost_sum, step_at, IsPlan}
use Rattle.np_flat.proofs.Runs.{small_from_start, step_there}
use Rattle.np_check.specs.declared.walk.Walk.{Walk}
use Rattle.np_check.specs.PlanEnds.{IsNotApplicable, IsNoPlan, IsStuckAt}
use Rattle.np_check.specs.Walks.{IsReady, HasRun, IsNumberTaken, GoesOn, IsTaken}
use Rattle.np_check.proofs.StepNumbers.{one_number}

-- as many numbers as steps
pub as_many : (task : Parts) (numbers : List ℕ) (steps : List Step) → map (step_at task) numbers ≡ map Some steps → length numbers ≡ length steps
as_many task numbers steps same =
    sym (length-map numbers (step_at task)) ∙ ap (λ (xs : List (Option Step)). length xs) same ∙ length-map steps Some

-- what a step costs
cost_small : (task : Parts) (n : ℕ) → IsFlat task → cost_of task n ≤ 2 ^ 32
cost_small task n flat = by (slice_get task.steps n) refl
  where
    by : (o : Option FlatStep) → slice_get task.steps n ≡ o → option_map_or (λ (s : FlatStep). s.cost) o 0 ≤ 2 ^ 32
    by None at = omega arith
    by (Some s) at = let cost : s.cost < 2 ^ 32 = (step_there task n s flat at).cost in omega arith

sum_small : (task : Parts) (ns : List ℕ) → IsFlat task → cost_sum task ns ≤ 2 ^ 32 * length ns
sum_small task [] flat = omega arith
sum_small task (n ∷ ns) flat =
    let first : cost_of task n ≤ 2 ^ 32 = cost_small task n flat in
    let rest : cost_sum task ns ≤ 2 ^ 32 * length ns = sum_small task ns flat in
    omega arith

-- the steps up to a number are no more than all
pub few_before : (steps : List Step) (n : ℕ) → length steps ≤ 2 ^ 24 → length (take n steps) ≤ 2 ^ 24
few_before steps n few = let e : length (take n steps) ≡ min n (length steps) = length-take n steps in omega arith

-- after so few steps one more can be computed
pub ready : (task : Parts) (steps : List Step) (w : Walk) → IsFlat task → length steps ≤ 2 ^ 24 → HasRun task steps w → IsReady task w
ready task steps w flat few run =
    let many : length run.numbers ≡ length steps = as_many task run.numbers steps run.steps_are in
    let small = small_from_start task run.numbers w.state flat run.runs in
    let sum : cost_sum task run.numbers ≤ 2 ^ 32 * length run.numbers = sum_small task run.numbers flat in
    let costs : w.cost ≡ cost_sum task run.numbers = run.costs in
    record {
      state = small.state;
      within = All-weaker (λ v. unsigned_abs v < 2 ^ 62 * (1 + length run.numbers)) (λ v. unsigned_abs v < 2 ^ 87) (λ v h. omega arith) w.state.values small.values;
      cost = omega arith;
    }

-- the state can then be looked at
pub small_ready : (task : Parts) (w : Walk) → IsReady task w → AreSmall w.state.values
small_ready task w is = All-weaker (λ v. unsigned_abs v < 2 ^ 87) (λ v. unsigned_abs v ≤ 2 ^ 87 + 2 ^ 62) (λ v h. omega arith) w.state.values is.within

-- one more number
run_more : (task : Parts) (ns : List ℕ) (n : ℕ) (s t u : FlatState) → run_from task ns s ≡ Some t → next task n t ≡ Some u → run_from task (ns ++ n ∷ []) s ≡ Some u
run_more task [] n s t u here step =
    ap (option_and_then (run_from task [])) (subst (λ (x : FlatState). next task n x ≡ Some u) (sym (is_same here)) step)
  where
    is_same : Some s ≡ Some t → s ≡ t
    is_same e = cc
run_more task (m ∷ ms) n s t u runs step =
    option_and_then_some (run_from task ms) (next task m s) t runs
    (λ x first rest. ap (option_and_then (run_from task (ms ++ n ∷ []))) first ∙ run_more task ms n x t u rest step)

sum_more : (task : Parts) (ns : List ℕ) (n : ℕ) → cost_sum task (ns ++ n ∷ []) ≡ cost_sum task ns + cost_of task n
sum_more task [] n = omega arith
sum_more task (m ∷ ms) n = let rest : cost_sum task (ms ++ n ∷ []) ≡ cost_sum task ms + cost_of task n = sum_more task ms n in omega arith

-- one more step
pub goes_on : (task : Parts) (steps more : List Step) (step : Step) (w v : Walk) → more ≡ steps ++ step ∷ [] → HasRun task steps w → GoesOn task step w v → HasRun task more v
goes_on task steps more step w v one run on = record {
  numbers = run.numbers ++ on.number ∷ [];
  steps_are =
      map-append (step_at task) run.numbers (on.number ∷ [])
      ∙ ap (λ (os : List (Option Step)). os ++ step_at task on.number ∷ []) run.steps_are
      ∙ ap (λ (o : Option Step). map Some steps ++ o ∷ []) on.stands
      ∙ sym (map-append Some steps (step ∷ []))
      ∙ ap (map Some) (sym one);
  runs = run_more task run.numbers on.number task.start w.state v.state run.runs on.leads;
  costs = on.costs ∙ ap (λ k. k + cost_of task on.number) run.costs ∙ sym (sum_more task run.numbers on.number);
}

-- whether a step was taken is whether the step of its number was
taken_by : (task : Parts) (step : Step) (n : ℕ) (old new : Walk) (taken : Bool) → IsFlat task → step_at task n ≡ Some step → IsNumberTaken task n old new taken → IsTaken task step old new taken
taken_by task step n old new true flat stands is = record { number = n; stands = stands; leads = is.0; costs = is.1 }
taken_by task step n old new false flat stands is = λ m other. subst (λ k. is_applicable task old.state k ≡ false) (one_number task n m step flat stands other) is

pub taken_if : {E : Type 0} (task : Parts) (step : Step) (n : ℕ) (old new : Walk) (r : Result Bool E) → IsFlat task → step_at task n ≡ Some step → IfOk r (IsNumberTaken task n old new) → IfOk r (IsTaken task step old new)
taken_if task step n old new (Ok taken) flat stands is = taken_by task step n old new taken flat stands is
taken_if task step n old new (Err e) flat stands is = is

-- what the end says
pub plan_is : (task : Parts) (steps : List Step) (w : Walk) → HasRun task steps w → is_goal task w.state ≡ true → IsPlan task steps w.cost
plan_is task steps w run goal = record {
  numbers = run.numbers;
  steps_are = run.steps_are;
  leads = record { end = w.state; runs = run.runs; goal = goal };
  costs = run.costs;
}

pub no_plan_is : (task : Parts) (steps : List Step) (w : Walk) → HasRun task steps w → is_goal task w.state ≡ false → IsNoPlan task steps
no_plan_is task steps w run no_goal = record {
  end = w.state;
  runs = record { numbers = run.numbers; steps_are = run.steps_are; runs = run.runs };
  no_goal = no_goal;
}

pub stuck_is : (task : Parts) (steps : List Step) (n : ℕ) (step : Step) (w : Walk) → HasRun task (take n steps) w → slice_get steps n ≡ Some step → IsNotApplicable task w.state step → IsStuckAt task steps (n + 1)
stuck_is task steps n step w run there stuck = record {
  before = n;
  number_is = refl;
  step = step;
  there = there;
  state = w.state;
  runs = record { numbers = run.numbers; steps_are = run.steps_are; runs = run.runs };
  stuck = stuck;
}
