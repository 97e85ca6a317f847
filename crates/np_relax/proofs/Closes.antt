-- What holds after a run is in each closed set.
use Rattle.std.proofs.Common.{◌≡◌, ℕ, Bool, true, false, List, [], ◌∷◌, length, All, refl, sym, ap, ◌∙◌, subst, inl, inr, Option, Some, None}
use Rattle.std.specs.Prelude.{slice_get}
use Rattle.std.specs.List.{list_all}
use Rattle.std.specs.Option.{option_map_or}
use Rattle.std.proofs.lemmas.Bool.{and_parts, and_from, false≢true}
use Rattle.std.proofs.lemmas.Option.{same_Some, option_and_then_some, cond_some}
use Rattle.std.proofs.lemmas.List.Elements.{All-head, All-tail}
use Rattle.np_flat.specs.declared.state.FlatState.{FlatState}
use Rattle.np_flat.specs.declared.parts.FlatStep.{FlatStep}
use Rattle.np_flat.specs.declared.parts.Parts.{Parts}
use Rattle.np_flat.specs.Flats.{IsStateOf, IsFlat}
use Rattle.np_flat.specs.States.{holds, meets, state_after, next}
use Rattle.np_flat.specs.Achieving.{achieves_at, achieved_by}
use Rattle.np_flat.specs.Plans.{run_from}
use Rattle.np_flat.proofs.Moves.{kept_or_achieved}
use Rattle.np_flat.proofs.Runs.{step_there}
use Rattle.np_flat.proofs.Steps.{state_of_after}
use Rattle.np_relax.specs.Closed.{IsClosed}

pub map_or_true : {A : Type 0} (f : A → Bool) (o : Option A) → option_map_or f o false ≡ true → (x : A) × (o ≡ Some x) × (f x ≡ true)
map_or_true f None h = absurd (false≢true h)
map_or_true f (Some x) h = (x, refl, h)

-- what holds of each that passes one test passes the other
pub all_weaker : (p r : ℕ → Bool) → ((x : ℕ) → p x ≡ true → r x ≡ true) → (xs : List ℕ) → list_all p xs ≡ true → list_all r xs ≡ true
all_weaker p r more [] h = refl
all_weaker p r more (x ∷ xs) h = let parts = and_parts (p x) (list_all p xs) h in and_from (r x) (list_all r xs) (more x parts.0) (all_weaker p r more xs parts.1)

-- a step that is taken is one of the task's, its needs hold, and it leads to the state after it
pub taken : {P : Type 0} (task : Parts) (n : ℕ) (s t : FlatState) → next task n s ≡ Some t → ((step : FlatStep) → slice_get task.steps n ≡ Some step → meets task s step ≡ true → state_after step s ≡ t → P) → P
taken task n s t e k =
    option_and_then_some _ (slice_get task.steps n) t e
    (λ step at made. let both = cond_some (meets task s step) (state_after step s) t made in k step at both.0 both.1)

-- what the step of a number achieves, the number achieves
pub by_step : (task : Parts) (n q : ℕ) (step : FlatStep) → slice_get task.steps n ≡ Some step → achieved_by task n q ≡ achieves_at task step q
by_step task n q step at = ap (λ o. option_map_or (λ (x : FlatStep). achieves_at task x q) o false) at

module _ (task : Parts) (removed set : ℕ → Bool) (flat : IsFlat task)
    (achieved : (n q : ℕ) (step : FlatStep) → slice_get task.steps n ≡ Some step → removed n ≡ false → list_all set step.needs ≡ true → achieves_at task step q ≡ true → set q ≡ true) where
  stays_in : (numbers : List ℕ) (s t : FlatState) → IsStateOf task s → ((q : ℕ) → holds task s q ≡ true → set q ≡ true) → All (λ n. removed n ≡ false) numbers → run_from task numbers s ≡ Some t → (q : ℕ) → holds task t q ≡ true → set q ≡ true
  stays_in [] s t of inside kept e q h = inside q (subst (λ u. holds task u q ≡ true) (sym (same_Some s t e)) h)
  stays_in (n ∷ ns) s t of inside kept e q h =
      option_and_then_some (run_from task ns) (next task n s) t e
      (λ u first rest. taken task n s u first
      (λ step at met gives.
      stays_in ns u t
      (subst (IsStateOf task) gives (state_of_after (length task.facts) (length task.values) (length task.subgoals) step s (step_there task n step flat at) of))
      (λ p there.
      elim (kept_or_achieved task n p s u flat of first there) [
        | inl before ↦ inside p before
        | inr by ↦ achieved n p step at (All-head (λ m. removed m ≡ false) n ns kept) (all_weaker (holds task s) set inside step.needs met) (sym (by_step task n p step at) ∙ by)
      ])
      (All-tail (λ m. removed m ≡ false) n ns kept) rest q h))

pub runs_stay_in : (task : Parts) (s t : FlatState) (removed set : ℕ → Bool) (numbers : List ℕ) → IsFlat task → IsStateOf task s → IsClosed task s removed set → All (λ n. removed n ≡ false) numbers → run_from task numbers s ≡ Some t → (q : ℕ) → holds task t q ≡ true → set q ≡ true
runs_stay_in task s t removed set numbers flat of closed kept e = stays_in task removed set flat closed.achieved numbers s t of closed.true_ones kept e
