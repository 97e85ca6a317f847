-- Which number stands for a step: how the map grows, and that it is one number.
use Rattle.std.proofs.Common.{◌≡◌, ℕ, ◌+◌, ◌<◌, Bool, true, false, cond, inl, inr, List, length, map, get_or, Option, None, Some, refl, sym, ◌∙◌, ap, subst, true≢false, arith}
use Rattle.std.specs.Prelude.{slice_get, MatchOption}
use Rattle.std.specs.Borrow.{Bor}
use Rattle.std.specs.HashMap.{HashMap, get}
use Rattle.std.specs.Option.{option_map}
use Rattle.std.proofs.lemmas.Bool.{cases_eq, cases_order}
use Rattle.std.proofs.lemmas.List.{length-map}
use Rattle.std.proofs.lemmas.Option.{none-some, slice_get-get_or, slice_get-map, slice_get_within, get_or_from_slice_get}
use Rattle.np_model.specs.declared.task.Step.{Step}
use Rattle.np_model.specs.Ground.{same_step, same_step-Decides}
use Rattle.np_flat.specs.declared.parts.FlatStep.{FlatStep}
use Rattle.np_flat.specs.declared.parts.Parts.{Parts}
use Rattle.np_flat.specs.Flats.{IsFlat}
use Rattle.np_flat.specs.Plans.{step_at}
use Rattle.np_check.specs.Walks.{IsNumberOf, HasNoNumber, AreNumbered}

-- what a look-up among the steps before a number may say
abbrev SaysNumber : List FlatStep → ℕ → Step → Option ℕ → Type 0
SaysNumber steps below step found = MatchOption found (HasNoNumber steps below step) (IsNumberOf steps step)

module _ (steps : List FlatStep) (n : ℕ) (d : FlatStep) (within : n < length steps) where
  stands : (step : Step) → (get_or steps n d).step ≡ step → IsNumberOf steps step n
  stands step same = ap (option_map (λ (s : FlatStep). s.step)) (slice_get-get_or steps n d within) ∙ ap Some same

  -- where no number before this one stands for the step, nor does this one
  none_more : (step : Step) → ((get_or steps n d).step ≡ step → ⊥) → HasNoNumber steps n step → HasNoNumber steps (n + 1) step
  none_more step other none m lt is =
      elim (cases_eq m n) [
        | inl at ↦ other (same (subst (IsNumberOf steps step) at is))
        | inr apart ↦ none m (omega arith) is
      ]
    where
      same : IsNumberOf steps step n → (get_or steps n d).step ≡ step
      same e = some_is (sym (ap (option_map (λ (s : FlatStep). s.step)) (slice_get-get_or steps n d within)) ∙ e)
        where
          some_is : Some (get_or steps n d).step ≡ Some step → (get_or steps n d).step ≡ step
          some_is e = cc

  -- what a look-up says after one more step
  says_more : (step : Step) (found : Option ℕ) → SaysNumber steps n step found → SaysNumber steps (n + 1) step (cond (same_step (get_or steps n d).step step) (Some n) found)
  says_more step found said = by (same_step (get_or steps n d).step step) refl found said
    where
      by : (b : Bool) → same_step (get_or steps n d).step step ≡ b → (found : Option ℕ) → SaysNumber steps n step found → SaysNumber steps (n + 1) step (cond b (Some n) found)
      by true same found said = stands step ((same_step-Decides (get_or steps n d).step step).0 same)
      by false other None said = none_more step (λ same. true≢false (sym ((same_step-Decides (get_or steps n d).step step).1 same) ∙ other)) said
      by false other (Some k) said = said

-- one more step
pub numbered_more : {S : Type 0} (old new : HashMap (Bor Step) ℕ S) (steps : List FlatStep) (n : ℕ) (d : FlatStep) → n < length steps
    → ((q : Bor Step) → get (λ x y. same_step x.now y.now) new q ≡ cond (same_step (get_or steps n d).step q.now) (Some n) (get (λ x y. same_step x.now y.now) old q))
    → AreNumbered old steps n → AreNumbered new steps (n + 1)
numbered_more old new steps n d within updates before q =
    subst (SaysNumber steps (n + 1) q.now) (sym (updates q)) (says_more steps n d within q.now (get (λ x y. same_step x.now y.now) old q) (before q))

-- a number that stands for a step is within the steps
pub number_within : (steps : List FlatStep) (step : Step) (n : ℕ) → IsNumberOf steps step n → n < length steps
number_within steps step n is = by (slice_get steps n) refl is
  where
    by : (o : Option FlatStep) → slice_get steps n ≡ o → option_map (λ (s : FlatStep). s.step) o ≡ Some step → n < length steps
    by None there is = absurd (none-some step is)
    by (Some x) there is = slice_get_within steps n x there

-- no two numbers of a flat task stand for one step
pub one_number : (task : Parts) (m n : ℕ) (step : Step) → IsFlat task → step_at task m ≡ Some step → step_at task n ≡ Some step → m ≡ n
one_number task m n step flat first second =
    elim (cases_order m n) [
      | inl same ↦ same
      | inr (inl lt) ↦ absurd (apart m n lt second (at m first ∙ sym (at n second)))
      | inr (inr lt) ↦ absurd (apart n m lt first (at n second ∙ sym (at m first)))
    ]
  where
    names : List Step
    names = map (λ (s : FlatStep). s.step) task.steps

    at : (k : ℕ) → step_at task k ≡ Some step → get_or names k step ≡ step
    at k is = get_or_from_slice_get names k step step (slice_get-map (λ (s : FlatStep). s.step) task.steps k ∙ is)

    apart : (i j : ℕ) → i < j → step_at task j ≡ Some step → get_or names i step ≡ get_or names j step → ⊥
    apart i j lt is same =
        let within : j < length task.steps = number_within task.steps step j is in
        let many : length names ≡ length task.steps = length-map task.steps (λ (s : FlatStep). s.step) in
        let inside : j < length names = omega arith in
        flat.distinct i j step lt inside same
