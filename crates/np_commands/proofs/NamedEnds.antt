-- Steps come to one end by names, where every run has a cost.
use Rattle.std.proofs.Common.{◌≡◌, ℕ, suc, ◌+◌, true≢false, List, [], ◌∷◌, ◌++◌, length, Option, Some, None, refl, sym, ap, ◌∙◌}
use Rattle.std.specs.Prelude.{option_and_then}
use Rattle.std.proofs.lemmas.Option.{none-some, same_Some, option_and_then_some}
use Rattle.np_frac.specs.Fractions.{Fraction, plus}
use Rattle.np_model.specs.declared.task.Step.{Step}
use Rattle.np_model.specs.declared.task.TaskParts.{TaskParts}
use Rattle.np_model.specs.States.{State}
use Rattle.np_model.specs.Values.{of_both}
use Rattle.np_model.specs.Steps.{next}
use Rattle.np_model.specs.Plans.{start_of, run_from, cost_from, is_goal}
use Rattle.np_model.proofs.Runs.{run_append, run_more, cost_more}
use Rattle.np_flat.specs.declared.parts.Parts.{Parts}
use Rattle.np_scale.specs.Laws.{SameRunsOf}
use Rattle.np_run.specs.declared.answers.RunEnd.{RunEnd}
use Rattle.np_run.specs.declared.answers.RunEnd.TheVariants.{Goal, NoGoal, Stuck, NoCost}
use Rattle.np_run.specs.RunAnswers.{IsWithoutGoal, IsStuckAt, HasNoCostAt, Says, IsAnswer}

head_same : (a b : Step) (xs ys : List Step) → a ∷ xs ≡ b ∷ ys → a ≡ b
head_same a b xs ys e = cc

tail_same : (a b : Step) (xs ys : List Step) → a ∷ xs ≡ b ∷ ys → xs ≡ ys
tail_same a b xs ys e = cc

-- a sum has no value where its second part has none
no_sum : (a : Option Fraction) → of_both plus a None ≡ None
no_sum None = refl
no_sum (Some x) = refl

module _ (task : TaskParts) where
  -- steps don't run where one of them isn't applicable
  stuck_none : (front : List Step) (step : Step) (others : List Step) (s t : State) → run_from task front s ≡ Some t → next task step t ≡ None → run_from task (front ++ step ∷ others) s ≡ None
  stuck_none front step others s t runs stuck =
      run_append task front (step ∷ others) s ∙ ap (option_and_then (run_from task (step ∷ others))) runs ∙ ap (option_and_then (run_from task others)) stuck

  no_run : (steps : List Step) (n : ℕ) (end : State) → IsStuckAt task steps n → run_from task steps (start_of task) ≡ Some end → ⊥
  no_run steps n end at runs =
      none-some end
      (sym (stuck_none at.front at.step at.others (start_of task) at.before at.run.runs at.stuck)
      ∙ ap (λ xs. run_from task xs (start_of task)) (sym at.parts)
      ∙ runs)

  -- a step that isn't applicable in a state isn't the first of a run from there
  not_first : (x b : Step) (xs ys g : List Step) (s t u : State) → x ∷ xs ≡ b ∷ ys → s ≡ t → next task x t ≡ None → run_from task (b ∷ g) s ≡ Some u → ⊥
  not_first x b xs ys g s t u same at stuck runs =
      option_and_then_some (run_from task g) (next task b s) u runs
      (λ v there rest. none-some v (sym (ap (λ z. next task z s) (sym (head_same x b xs ys same)) ∙ ap (next task x) at ∙ stuck) ∙ there))

  -- the step that isn't applicable has one place
  one_place : (f g : List Step) (x y : Step) (xs ys : List Step) (s t u : State) → f ++ x ∷ xs ≡ g ++ y ∷ ys → run_from task f s ≡ Some t → run_from task g s ≡ Some u → next task x t ≡ None → next task y u ≡ None → length f ≡ length g
  one_place [] [] x y xs ys s t u same runs others_run stuck other_stuck = refl
  one_place [] (b ∷ g) x y xs ys s t u same runs others_run stuck other_stuck =
      absurd (not_first x b xs (g ++ y ∷ ys) g s t u same (same_Some s t runs) stuck others_run)
  one_place (a ∷ f) [] x y xs ys s t u same runs others_run stuck other_stuck =
      absurd (not_first y a ys (f ++ x ∷ xs) f s u t (sym same) (same_Some s u others_run) other_stuck runs)
  one_place (a ∷ f) (b ∷ g) x y xs ys s t u same runs others_run stuck other_stuck =
      option_and_then_some (run_from task f) (next task a s) t runs
      (λ v there rest. option_and_then_some (run_from task g) (next task b s) u others_run
      (λ w there_too rest_too.
      let first : a ≡ b = head_same a b (f ++ x ∷ xs) (g ++ y ∷ ys) same in
      let at : w ≡ v = same_Some w v (sym there_too ∙ ap (λ z. next task z s) (sym first) ∙ there) in
      ap suc (one_place f g x y xs ys v t u (tail_same a b (f ++ x ∷ xs) (g ++ y ∷ ys) same) rest (ap (run_from task g) (sym at) ∙ rest_too) stuck other_stuck)))

module _ (task : TaskParts) (flat : Parts) (same : SameRunsOf task flat) (steps : List Step) where
  -- each step of a run has a cost
  always_costs : (n : ℕ) → HasNoCostAt task steps n → ⊥
  always_costs n at =
      let r = same.to_flat (at.front ++ at.step ∷ []) at.after (run_more task at.front at.step (start_of task) at.before at.run.runs ∙ at.leads) in
      none-some _
      (sym (cost_more task at.front at.step (start_of task) at.before at.after at.run.runs at.leads
      ∙ ap (of_both plus (cost_from task at.front (start_of task))) at.no_cost
      ∙ no_sum (cost_from task at.front (start_of task)))
      ∙ r.same.costs)

  only_without_goal : IsWithoutGoal task steps → (other : RunEnd) → Says task steps other → other ≡ NoGoal
  only_without_goal is (Goal cost) p = absurd (true≢false (sym p.goal ∙ ap (is_goal task) (same_Some p.end is.end (sym p.runs ∙ is.run.runs)) ∙ is.goal))
  only_without_goal is NoGoal said = refl
  only_without_goal is (Stuck n) at = absurd (no_run task steps n is.end at is.run.runs)
  only_without_goal is (NoCost n) at = absurd (always_costs n at)

  only_stuck : (m : ℕ) → IsStuckAt task steps m → (other : RunEnd) → Says task steps other → other ≡ Stuck m
  only_stuck m is (Goal cost) p = absurd (no_run task steps m p.end is p.runs)
  only_stuck m is NoGoal said = absurd (no_run task steps m said.end is said.run.runs)
  only_stuck m is (Stuck n) at =
      ap Stuck
      (at.number
      ∙ ap (λ k. k + 1) (one_place task at.front is.front at.step is.step at.others is.others (start_of task) at.before is.before (sym at.parts ∙ is.parts) at.run.runs is.run.runs at.stuck is.stuck)
      ∙ sym is.number)
  only_stuck m is (NoCost n) at = absurd (always_costs n at)

  -- so what is true of the steps is their answer
  pub answer_without_goal : IsWithoutGoal task steps → IsAnswer task steps NoGoal
  answer_without_goal is = record { true_of = is; only = only_without_goal is }

  pub answer_stuck : (m : ℕ) → IsStuckAt task steps m → IsAnswer task steps (Stuck m)
  answer_stuck m is = record { true_of = is; only = only_stuck m is }
