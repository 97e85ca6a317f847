-- What steps come to by names, from what they come to on the flat task.
use Rattle.std.proofs.Common.{◌≡◌, ℕ, ◌+◌, true, false, true≢false, zero, suc, List, [], ◌∷◌, ◌++◌, length, map, take, drop, Option, Some, None, pos, refl, sym, ap, ap₂, ◌∙◌, subst}
use Rattle.std.specs.Prelude.{slice_get, is_some}
use Rattle.std.specs.Option.{option_map_or, option_and_then}
use Rattle.std.proofs.lemmas.Option.{none-some, same_Some, option_and_then_some, cond_some}
use Rattle.np_frac.specs.Fractions.{whole}
use Rattle.np_model.specs.declared.task.Step.{Step}
use Rattle.np_model.specs.declared.task.TaskParts.{TaskParts}
use Rattle.np_model.specs.States.{State}
use Rattle.np_model.specs.Steps.{next}
use Rattle.np_model.specs.Tasks.{IsTask}
use Rattle.np_model.specs.Plans.{start_of, run_from, is_goal, IsPlan}
use Rattle.np_model.proofs.Runs.{run_more}
use Rattle.np_flat.specs.declared.state.FlatState.{FlatState}
use Rattle.np_flat.specs.declared.parts.FlatStep.{FlatStep}
use Rattle.np_flat.specs.declared.parts.Parts.{Parts}
use Rattle.np_flat.specs.States as flat_states
use Rattle.np_flat.specs.Plans.{step_at}
use Rattle.np_flat.specs.Plans as flat_plans
use Rattle.np_scale.specs.Same.{StandsFor}
use Rattle.np_scale.specs.Scaling.{IsFlatTaskOf}
use Rattle.np_scale.specs.Laws.{SameRunsOf}
use Rattle.np_scale.proofs.StandsForOne.{stands_for_one}
use Rattle.np_scale.proofs.SameRuns.{same_runs, same_plans}
use Rattle.np_run.specs.declared.answers.RunEnd.TheVariants as run
use Rattle.np_run.specs.RunAnswers.{RunsTo, IsAnswer}
use Rattle.np_check.specs.declared.plan_end.PlanEnd.TheVariants as plan
use Rattle.np_check.specs.PlanEnds.{IsNoPlan, IsStuckAt, IsPlanEnd}
use Rattle.np_check.specs.PlanEnds as flat_ends
use Rattle.np_commands.proofs.NamedEnds.{answer_without_goal, answer_stuck}

-- ---- lists

head_is : (a b : Option Step) (xs ys : List (Option Step)) → a ∷ xs ≡ b ∷ ys → a ≡ b
head_is a b xs ys e = cc

tail_is : (a b : Option Step) (xs ys : List (Option Step)) → a ∷ xs ≡ b ∷ ys → xs ≡ ys
tail_is a b xs ys e = cc

none_are : (x : Option Step) (xs : List (Option Step)) → [] ≡ x ∷ xs → ⊥
none_are x xs e = absurd cc

same_items : (xs ys : List Step) → map Some xs ≡ map Some ys → xs ≡ ys
same_items [] [] e = refl
same_items [] (y ∷ ys) e = absurd (none_are _ _ e)
same_items (x ∷ xs) [] e = absurd (none_are _ _ (sym e))
same_items (x ∷ xs) (y ∷ ys) e = ap₂ (λ z zs. z ∷ zs) (same_Some x y (head_is _ _ _ _ e)) (same_items xs ys (tail_is _ _ _ _ e))

-- a list is what is before an item, the item, and what follows
parted : (xs : List Step) (i : ℕ) (x : Step) → slice_get xs i ≡ Some x → xs ≡ take i xs ++ x ∷ drop (suc i) xs
parted [] i x e = absurd (none-some x e)
parted (y ∷ ys) zero x e = ap (λ z. z ∷ ys) (same_Some y x e)
parted (y ∷ ys) (suc i) x e = ap (λ zs. y ∷ zs) (parted ys i x e)

length_before : (xs : List Step) (i : ℕ) (x : Step) → slice_get xs i ≡ Some x → length (take i xs) ≡ i
length_before [] i x e = absurd (none-some x e)
length_before (y ∷ ys) zero x e = refl
length_before (y ∷ ys) (suc i) x e = ap suc (length_before ys i x e)

-- ---- the last step of a flat run

-- a flat step that is taken is applicable
applicable_next : (flat : Parts) (n : ℕ) (s t : FlatState) → flat_states.next flat n s ≡ Some t → flat_states.is_applicable flat s n ≡ true
applicable_next flat n s t e =
    option_and_then_some _ (slice_get flat.steps n) t e
    (λ step at made. ap (λ (o : Option FlatStep). option_map_or (flat_states.meets flat s) o false) at ∙ (cond_some (flat_states.meets flat s step) (flat_states.state_after step s) t made).0)

-- steps run to a flat state in which a number that stands for this one more step is applicable
record GoesOn (flat : Parts) (s : FlatState) (front : List Step) (step : Step) : Type 0 where
  numbers : List ℕ
  named : map (step_at flat) numbers ≡ map Some front
  state : FlatState
  runs : flat_plans.run_from flat numbers s ≡ Some state
  number : ℕ
  stands : step_at flat number ≡ Some step
  applicable : flat_states.is_applicable flat state number ≡ true

goes_on : (flat : Parts) (front : List Step) (step : Step) (numbers : List ℕ) (s t : FlatState) → map (step_at flat) numbers ≡ map Some (front ++ step ∷ []) → flat_plans.run_from flat numbers s ≡ Some t → GoesOn flat s front step
goes_on flat [] step [] s t named runs = absurd (none_are _ _ named)
goes_on flat [] step (n ∷ ns) s t named runs =
    option_and_then_some (flat_plans.run_from flat ns) (flat_states.next flat n s) t runs
    (λ u there rest. record {
      numbers = [];
      named = refl;
      state = s;
      runs = refl;
      number = n;
      stands = head_is _ _ _ _ named;
      applicable = applicable_next flat n s u there;
    })
goes_on flat (x ∷ front) step [] s t named runs = absurd (none_are _ _ named)
goes_on flat (x ∷ front) step (n ∷ ns) s t named runs =
    option_and_then_some (flat_plans.run_from flat ns) (flat_states.next flat n s) t runs
    (λ u there rest.
    let on = goes_on flat front step ns u t (tail_is _ _ _ _ named) rest in
    record {
      numbers = n ∷ on.numbers;
      named = ap₂ (λ z zs. z ∷ zs) (head_is _ _ _ _ named) on.named;
      state = on.state;
      runs = ap (option_and_then (flat_plans.run_from flat on.numbers)) there ∙ on.runs;
      number = on.number;
      stands = on.stands;
      applicable = on.applicable;
    })

-- ---- ends

-- steps run to a state by names that a flat state stands for, and the goal holds in both or in none
record RunsByNames (task : TaskParts) (flat : Parts) (steps : List Step) (f : FlatState) : Type 0 where
  state : State
  run : RunsTo task steps state
  stands : StandsFor flat state f
  goal : is_goal task state ≡ flat_states.is_goal flat f

module _ (task : TaskParts) (flat : Parts) (same : SameRunsOf task flat) where
  by_names : (steps : List Step) (f : FlatState) → flat_ends.RunsTo flat steps f → RunsByNames task flat steps f
  by_names steps f is =
      let r = same.from_flat is.numbers f is.runs in
      subst (λ (xs : List Step). RunsByNames task flat xs f) (same_items r.steps steps (sym r.same.named ∙ is.steps_are))
      (record {
        state = r.state;
        run = record { runs = r.same.runs; costs = ap is_some r.same.costs };
        stands = r.same.stands;
        goal = r.same.goal;
      })

  without_goal : (steps : List Step) → IsNoPlan flat steps → IsAnswer task steps run.NoGoal
  without_goal steps is =
      let r = by_names steps is.end is.runs in
      answer_without_goal task flat same steps (record { end = r.state; run = r.run; goal = r.goal ∙ is.no_goal })

  -- the flat state where steps run to is the one that stands for the state where they run to by names
  one_flat : (steps : List Step) (s : State) (f g : FlatState) → run_from task steps (start_of task) ≡ Some s → StandsFor flat s f → RunsByNames task flat steps g → g ≡ f
  one_flat steps s f g runs stands r =
      let there : r.state ≡ s = same_Some r.state s (sym r.run.runs ∙ runs) in
      stands_for_one flat s g f (subst (λ (x : State). StandsFor flat x g) there r.stands) stands

  -- a step that isn't applicable after a flat run isn't after the run by names
  goes_nowhere : (front : List Step) (step : Step) (s : State) (f : FlatState) → run_from task front (start_of task) ≡ Some s → StandsFor flat s f → flat_ends.IsNotApplicable flat f step → GoesOn flat flat.start front step → ⊥
  goes_nowhere front step s f runs stands stuck on =
      let at : on.state ≡ f = one_flat front s f on.state runs stands (by_names front on.state (record { numbers = on.numbers; steps_are = on.named; runs = on.runs })) in
      true≢false (sym on.applicable ∙ ap (λ (x : FlatState). flat_states.is_applicable flat x on.number) at ∙ stuck on.number on.stands)

  applicable_flat : (front : List Step) (step : Step) (s t : State) → run_from task front (start_of task) ≡ Some s → next task step s ≡ Some t → GoesOn flat flat.start front step
  applicable_flat front step s t runs leads =
      let r = same.to_flat (front ++ step ∷ []) t (run_more task front step (start_of task) s runs ∙ leads) in
      goes_on flat front step r.numbers flat.start r.state r.same.named r.same.flat_runs

  not_applicable : (front : List Step) (step : Step) (s : State) (f : FlatState) → run_from task front (start_of task) ≡ Some s → StandsFor flat s f → flat_ends.IsNotApplicable flat f step → next task step s ≡ None
  not_applicable front step s f runs stands stuck = by (next task step s) refl
    where
      by : (o : Option State) → next task step s ≡ o → o ≡ None
      by None e = refl
      by (Some t) e = absurd (goes_nowhere front step s f runs stands stuck (applicable_flat front step s t runs e))

  stuck_at : (steps : List Step) (n : ℕ) → IsStuckAt flat steps n → IsAnswer task steps (run.Stuck n)
  stuck_at steps n is =
      let r = by_names (take is.before steps) is.state is.runs in
      answer_stuck task flat same steps n
      (record {
        front = take is.before steps;
        step = is.step;
        others = drop (suc is.before) steps;
        parts = parted steps is.before is.step is.there;
        number = is.number_is ∙ ap (λ k. k + 1) (sym (length_before steps is.before is.step is.there));
        before = r.state;
        run = r.run;
        stuck = not_applicable (take is.before steps) is.step r.state is.state r.run.runs r.stands is.stuck;
      })

module _ (task : TaskParts) (flat : Parts) (well : IsTask task) (of : IsFlatTaskOf task flat) (steps : List Step) where
  pub plan_by_names : (cost : ℕ) → IsPlanEnd flat steps (plan.Goal cost) → IsPlan task steps (whole (pos cost))
  plan_by_names cost is = (same_plans task flat well of steps cost).1 is

  pub no_goal_by_names : IsPlanEnd flat steps plan.NoGoal → IsAnswer task steps run.NoGoal
  no_goal_by_names is = without_goal task flat (same_runs task flat well of) steps is

  pub stuck_by_names : (n : ℕ) → IsPlanEnd flat steps (plan.Stuck n) → IsAnswer task steps (run.Stuck n)
  stuck_by_names n is = stuck_at task flat (same_runs task flat well of) steps n is
