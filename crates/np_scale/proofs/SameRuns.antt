-- A flat task has the runs and plans of its task, at the same costs.
use Rattle.std.proofs.Common.{◌≡◌, ℕ, pos, refl, sym, ◌∙◌, ap, ap₂, subst, List, [], ◌∷◌, map, Some, Option, Ok}
use Rattle.std.proofs.lemmas.Option.{same_Some}
use Rattle.np_frac.specs.Fractions.{whole}
use Rattle.np_frac.specs.Field.{same_whole}
use Rattle.np_model.specs.declared.task.Step.{Step}
use Rattle.np_model.specs.declared.task.TaskParts.{TaskParts}
use Rattle.np_model.specs.States.{State}
use Rattle.np_model.specs.Tasks.{AreDistinct, IsTask}
use Rattle.np_model.specs.Plans.{start_of, run_from, IsPlan}
use Rattle.np_flat.specs.declared.state.FlatState.{FlatState}
use Rattle.np_flat.specs.declared.parts.Parts.{Parts}
use Rattle.np_flat.specs.Plans.{cost_sum}
use Rattle.np_flat.specs.Plans as flat_plans
use Rattle.np_bind.specs.declared.bound.BoundParts.{BoundParts}
use Rattle.np_bind.specs.Binding.{bind_task}
use Rattle.np_bind.specs.BoundPlans.{bound_start}
use Rattle.np_bind.specs.Laws as bound_laws
use Rattle.np_bind.proofs.SameRuns as bound_runs
use Rattle.np_bind.proofs.BoundIsBound.{bound_is_bound}
use Rattle.np_scale.specs.FlatOf.{FlatTables, numbers_of, flat_step, flat_start, flat_with}
use Rattle.np_scale.specs.Scaling.{scale_task}
use Rattle.np_scale.specs.Laws.{HasFlatRun, HasRun, SameRunsOf, SameRuns, SamePlans, PlansCostWhole}
use Rattle.np_scale.proofs.FlatRuns.{AreImages, numbers_of_run, steps_of_run}
use Rattle.np_scale.proofs.FlatImages.{HasExactNumbers, start_stands, step_image, same_goal}
use Rattle.np_scale.proofs.ExactNumbers.{flat_is, exact_numbers}

-- ---- runs

module _ (task : TaskParts) (bound : BoundParts) (n : FlatTables) (once : AreDistinct (map (λ b. b.step) bound.steps))
    (same : (steps : List Step) → bound_laws.SameRun task bound steps) (h : HasExactNumbers n bound) where
  images : AreImages (flat_with n bound) bound.steps (flat_step n)
  images = record { steps = refl; each = step_image n bound h }

  to_flat : (steps : List Step) (s : State) → run_from task steps (start_of task) ≡ Some s → HasFlatRun task (flat_with n bound) steps s
  to_flat steps s e =
      let r = numbers_of_run (flat_with n bound) bound.steps (flat_step n) images steps (bound_start bound) s (flat_start n bound) (sym (same steps).ends ∙ e) (start_stands n bound h) in
      record {
        numbers = r.numbers;
        state = r.end;
        same = record {
          named = r.named;
          runs = e;
          flat_runs = r.runs;
          stands = r.stands;
          costs = (same steps).costs ∙ r.costs;
          goal = (same steps).goal s e ∙ same_goal n bound h s r.end r.stands;
        };
      }

  from_flat : (numbers : List ℕ) (f : FlatState) → flat_plans.run_from (flat_with n bound) numbers (flat_start n bound) ≡ Some f → HasRun task (flat_with n bound) numbers f
  from_flat numbers f e =
      let r = steps_of_run (flat_with n bound) bound.steps (flat_step n) images once numbers (bound_start bound) (flat_start n bound) f e (start_stands n bound h) in
      let runs : run_from task r.steps (start_of task) ≡ Some r.end = (same r.steps).ends ∙ r.runs in
      record {
        steps = r.steps;
        state = r.end;
        same = record {
          named = r.named;
          runs = runs;
          flat_runs = e;
          stands = r.stands;
          costs = (same r.steps).costs ∙ r.costs;
          goal = (same r.steps).goal r.end runs ∙ same_goal n bound h r.end f r.stands;
        };
      }

  runs_of : SameRunsOf task (flat_with n bound)
  runs_of = record { to_flat = to_flat; from_flat = from_flat }

same_by : (task : TaskParts) (bound : BoundParts) (flat : Parts) → IsTask task → bind_task task ≡ Ok bound → scale_task bound ≡ Ok flat → SameRunsOf task flat
same_by task bound flat t binds scales =
    let is_bound = bound_is_bound task bound t binds in
    subst (SameRunsOf task) (sym (flat_is bound flat scales))
    (runs_of task bound (numbers_of bound) is_bound.once (bound_runs.same_runs task bound t binds) (exact_numbers bound flat is_bound scales))

pub same_runs : SameRuns
same_runs task flat t is = same_by task is.bound flat t is.binds is.scales

-- ---- plans

same_number : (m n : ℕ) → pos m ≡ pos n → m ≡ n
same_number m n e = cc

-- a plan of the task is a flat plan
flat_plan : (task : TaskParts) (flat : Parts) → SameRunsOf task flat → (steps : List Step) (cost : ℕ) → IsPlan task steps (whole (pos cost)) → flat_plans.IsPlan flat steps cost
flat_plan task flat same steps cost p =
    let r = same.to_flat steps p.end p.runs in
    let sum : ℕ = cost_sum flat r.numbers in
    record {
      numbers = r.numbers;
      steps_are = r.same.named;
      leads = record { end = r.state; runs = r.same.flat_runs; goal = sym r.same.goal ∙ p.goal };
      costs = same_number cost sum (same_whole (pos cost) (pos sum) (same_Some (whole (pos cost)) (whole (pos sum)) (sym p.costs ∙ r.same.costs)));
    }

-- lists whose items are there are the same
same_lists : (xs ys : List Step) → map Some xs ≡ map Some ys → xs ≡ ys
same_lists [] [] e = refl
same_lists [] (y ∷ ys) e = cc
same_lists (x ∷ xs) [] e = cc
same_lists (x ∷ xs) (y ∷ ys) e = ap₂ (λ z zs. z ∷ zs) (head_same x y (map Some xs) (map Some ys) e) (same_lists xs ys (tail_same (Some x) (Some y) (map Some xs) (map Some ys) e))
  where
    head_same : (a b : Step) (os ps : List (Option Step)) → Some a ∷ os ≡ Some b ∷ ps → a ≡ b
    head_same a b os ps e = cc

    tail_same : (o p : Option Step) (os ps : List (Option Step)) → o ∷ os ≡ p ∷ ps → os ≡ ps
    tail_same o p os ps e = cc

-- a flat plan is a plan of the task
task_plan : (task : TaskParts) (flat : Parts) → SameRunsOf task flat → (steps : List Step) (cost : ℕ) → flat_plans.IsPlan flat steps cost → IsPlan task steps (whole (pos cost))
task_plan task flat same steps cost p =
    let r = same.from_flat p.numbers p.leads.end p.leads.runs in
    subst (λ xs. IsPlan task xs (whole (pos cost))) (same_lists r.steps steps (sym r.same.named ∙ p.steps_are))
    record {
      end = r.state;
      runs = r.same.runs;
      goal = r.same.goal ∙ p.leads.goal;
      costs = r.same.costs ∙ ap (λ c. Some (whole (pos c))) (sym p.costs);
    }

pub same_plans : SamePlans
same_plans task flat t is steps cost =
    let same : SameRunsOf task flat = same_runs task flat t is in
    (flat_plan task flat same steps cost, task_plan task flat same steps cost)

pub plans_cost_whole : PlansCostWhole
plans_cost_whole task flat t is steps cost p =
    let same : SameRunsOf task flat = same_runs task flat t is in
    let r = same.to_flat steps p.end p.runs in
    let sum : ℕ = cost_sum flat r.numbers in
    record { number = sum; is = same_Some cost (whole (pos sum)) (sym p.costs ∙ r.same.costs) }
