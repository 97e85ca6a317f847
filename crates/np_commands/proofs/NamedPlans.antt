-- A plan by number is a plan of steps of the task.
use Rattle.std.proofs.Common.{◌≡◌, ℕ, ◌<◌, ◌≤◌, ◌^◌, refl, sym, ap, ap₂, ◌∙◌, subst, List, [], ◌∷◌, length, map, All, IsTrue, is_some, Option, None, Some, slice_get, option_map, if◌then◌else◌, arith}
use Rattle.std.proofs.lemmas.List.{length-map}
use Rattle.std.proofs.lemmas.List.Elements.{All-nil, All-cons}
use Rattle.std.proofs.lemmas.Option.{none-some, same_Some, slice_get_within, option_and_then_some}
use Rattle.np_model.specs.declared.task.Step.{Step}
use Rattle.np_model.specs.declared.task.Action.{Action}
use Rattle.np_model.specs.declared.task.TaskParts.{TaskParts}
use Rattle.np_model.specs.States.{State}
use Rattle.np_model.specs.Steps.{action_of, is_step, is_applicable, result_of, next}
use Rattle.np_model.specs.Tasks.{IsTask}
use Rattle.np_model.specs.Plans.{start_of, run_from}
use Rattle.np_flat.specs.declared.parts.FlatStep.{FlatStep}
use Rattle.np_flat.specs.declared.parts.Parts.{Parts}
use Rattle.np_flat.specs.Plans.{step_at}
use Rattle.np_scale.specs.Scaling.{IsFlatTaskOf}
use Rattle.np_scale.proofs.SameRuns.{same_runs, same_plans}
use Rattle.np_evidence.specs.Outcomes as outcomes
use Rattle.np_commands.specs.Solutions.{IsCheapest}
use Rattle.np_commands.specs.Steps.{StandFor, AreSteps, IsPlanText}
use Rattle.np_commands.proofs.NamedBounds.{none_below}

-- ---- steps by number

-- a number that stands for a step is that of one
within : (flat : Parts) (n : ℕ) (step : Step) → step_at flat n ≡ Some step → n < length flat.steps
within flat n step e = by (slice_get flat.steps n) refl e
  where
    by : (o : Option FlatStep) → slice_get flat.steps n ≡ o → option_map (λ (s : FlatStep). s.step) o ≡ Some step → n < length flat.steps
    by None is h = absurd (none-some step h)
    by (Some s) is h = slice_get_within flat.steps n s is

-- the parts of equal lists
head_same : {X : Type 0} (x y : X) (xs ys : List X) → x ∷ xs ≡ y ∷ ys → x ≡ y
head_same x y xs ys e = cc

tail_same : {X : Type 0} (x y : X) (xs ys : List X) → x ∷ xs ≡ y ∷ ys → xs ≡ ys
tail_same x y xs ys e = cc

-- numbers that stand for steps are those of steps
all_within : (flat : Parts) (numbers : List ℕ) (steps : List Step) → map (step_at flat) numbers ≡ map Some steps → All (λ n. n < length flat.steps) numbers
all_within flat [] steps e = All-nil (λ n. n < length flat.steps)
all_within flat (n ∷ ns) [] e = absurd cc
all_within flat (n ∷ ns) (x ∷ xs) e =
    All-cons (λ k. k < length flat.steps) n ns
    (within flat n x (head_same (step_at flat n) (Some x) (map (step_at flat) ns) (map Some xs) e))
    (all_within flat ns xs (tail_same (step_at flat n) (Some x) (map (step_at flat) ns) (map Some xs) e))

-- ---- steps by name

-- what can be taken is a step of the task
taken_step : (task : TaskParts) (step : Step) (s t : State) → next task step s ≡ Some t → IsTrue (is_step task step)
unfolding next
taken_step task step s t e =
    option_and_then_some
    (λ (action : Action). if is_applicable action step.objects s then Some (result_of action step.objects s) else None)
    (action_of task step) t e (λ action is _. ap is_some is)

-- the steps of a run are steps of the task
run_steps : (task : TaskParts) (steps : List Step) (s t : State) → run_from task steps s ≡ Some t → All (λ step. IsTrue (is_step task step)) steps
run_steps task [] s t e = All-nil (λ step. IsTrue (is_step task step))
run_steps task (x ∷ xs) s t e =
    option_and_then_some (run_from task xs) (next task x s) t e
    (λ u there more. All-cons (λ step. IsTrue (is_step task step)) x xs (taken_step task x s u there) (run_steps task xs u t more))

-- the same steps are there
same_steps : (xs ys : List Step) → map Some xs ≡ map Some ys → xs ≡ ys
same_steps [] [] e = refl
same_steps [] (y ∷ ys) e = absurd cc
same_steps (x ∷ xs) [] e = absurd cc
same_steps (x ∷ xs) (y ∷ ys) e =
    ap₂ (λ z zs. z ∷ zs) (same_Some x y (head_same (Some x) (Some y) (map Some xs) (map Some ys) e))
    (same_steps xs ys (tail_same (Some x) (Some y) (map Some xs) (map Some ys) e))

-- numbers stand for as many steps
as_many : (flat : Parts) (numbers : List ℕ) (steps : List Step) → StandFor flat numbers steps → length steps ≡ length numbers
as_many flat numbers steps stand = sym (length-map steps Some) ∙ ap length stand ∙ length-map numbers (step_at flat)

module _ (task : TaskParts) (flat : Parts) (t : IsTask task) (of : IsFlatTaskOf task flat) (nodes : ℕ) (numbers : List ℕ) (cost : ℕ)
    (is : outcomes.IsCheapest flat nodes numbers cost) where
  -- the numbers of a cheapest plan are those of steps of the task
  pub are_steps : AreSteps task flat numbers
  are_steps =
      let r = (same_runs task flat t of).from_flat numbers is.leads.end is.leads.runs in
      record {
        numbered = all_within flat numbers r.steps r.same.named;
        named = λ steps stand.
            subst (All (λ step. IsTrue (is_step task step))) (sym (same_steps steps r.steps (stand ∙ r.same.named)))
            (run_steps task r.steps (start_of task) r.state r.same.runs);
      }

  -- and their text is that of a cheapest plan of the task
  pub cheapest : nodes ≤ 2 ^ 24 → (text : List ℕ) → IsPlanText task flat numbers text → IsCheapest task text cost
  cheapest few text printed = record {
    steps = printed.steps;
    layout = printed.layout;
    spelled = record { spelled = printed.spelled; few = omega (arith, as_many flat numbers printed.steps printed.stand, is.few, few) };
    is_plan = (same_plans task flat t of printed.steps cost).1
        (record { numbers = numbers; steps_are = sym printed.stand; leads = is.leads; costs = is.costs });
    none_cheaper = none_below task flat t of cost is.none_cheaper;
  }
