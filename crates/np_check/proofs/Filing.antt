-- Filing the steps of a task, one after the other; and which of them can be applicable in a state.
use Rattle.std.proofs.Common.{◌≡◌, ℕ, ◌<◌, zero, suc, ◌+◌, ◌||◌, ◌&&◌, eqb, Bool, true, false, inl, inr, List, [], ◌∷◌, length, All, ◌⊎◌, None, Some, slice_get, refl, sym, ap, subst, ◌∙◌, arith, true≢false, if◌then◌else◌}
use Rattle.std.specs.Option.{option_map_or, option_and_then}
use Rattle.std.proofs.lemmas.Bool.{cases_lt, eqb-true, eq-eqb}
use Rattle.std.proofs.lemmas.Option.{none-some, same_Some, slice_get_within, get_or_from_slice_get}
use Rattle.std.proofs.lemmas.List.Elements.{All-head, All-tail}
use Rattle.std.proofs.lemmas.List.Folds.{list_all_at}
use Rattle.np_flat.specs.declared.state.FlatState.{FlatState}
use Rattle.np_flat.specs.declared.parts.FlatStep.{FlatStep}
use Rattle.np_flat.specs.declared.parts.Parts.{Parts}
use Rattle.np_flat.specs.States.{has, holds, meets, subgoal_holds, state_after, next}
use Rattle.np_flat.specs.Readers.{row, IsNoted}
use Rattle.np_cert.specs.declared.certificate.Entry.{Entry}
use Rattle.np_check.specs.Steps.{IsBounded}
use Rattle.np_check.specs.Watched.{NeedsFact, IsPlaceOf, IsFiled, AreFiled}

true_before : (b : Bool) → b || true ≡ true
true_before true = refl
true_before false = refl

-- a number equals itself
same_is : (n : ℕ) → eqb n n ≡ true
same_is n = eq-eqb n n refl

module _ (task : Parts) (n : ℕ) (old new : List (List ℕ)) (place : ℕ) (noted : IsNoted (λ p. eqb place p) n old new) where
  -- what was filed stays so
  still : (m : ℕ) (step : FlatStep) → IsFiled task old m step → IsFiled task new m step
  still m step is = record {
    place = is.place;
    within = subst (λ k. is.place < k) (sym noted.many) is.within;
    own = is.own;
    filed = noted.each is.place m is.within ∙ ap (λ b. b || (eqb n m && eqb place is.place)) is.filed;
  }

  -- and the step of this number is filed
  now_filed : (step : FlatStep) → place < length old → IsPlaceOf task step place → IsFiled task new n step
  now_filed step within own = record {
    place = place;
    within = subst (λ k. place < k) (sym noted.many) within;
    own = own;
    filed = noted.each place n within ∙ ap (λ b. has (row old place) n || (b && eqb place place)) (same_is n) ∙ ap (λ b. has (row old place) n || b) (same_is place) ∙ true_before (has (row old place) n);
  }

  pub filed_more : (step : FlatStep) → slice_get task.steps n ≡ Some step → place < length old → IsPlaceOf task step place → AreFiled task n old → AreFiled task (n + 1) new
  filed_more step there within own are = record {
    count = noted.many ∙ are.count;
    each = λ m other below at. elim (cases_lt m n) [
      | inl less ↦ still m other (are.each m other less at)
      | inr past ↦
          let same : m ≡ n = omega (arith, below, past) in
          subst (λ k. IsFiled task new k other) (sym same)
          (now_filed other within (subst (λ x. IsPlaceOf task x place) (same_Some step other (sym there ∙ subst (λ k. slice_get task.steps k ≡ Some other) same at)) own))
    ];
  }

-- nothing is filed at first
pub none_filed : (task : Parts) (table : List (List ℕ)) → length table ≡ length task.facts + 1 → AreFiled task 0 table
none_filed task table count = record { count = count; each = λ n step below at. absurd (omega arith) }

-- what holds of all numbers of a list holds of each that is in it
pub all_in : (P : ℕ → Type 0) (ns : List ℕ) (n : ℕ) → All P ns → has ns n ≡ true → P n
all_in P [] n all there = absurd (true≢false (sym there))
all_in P (m ∷ ns) n all there = by (eqb m n) refl (λ more. all_in P ns n (All-tail P m ns all) more)
  where
    by : (b : Bool) → eqb m n ≡ b → (has ns n ≡ true → P n) → P n
    by true e later = subst P (eqb-true m n e) (All-head P m ns all)
    by false e later = later (sym (ap (λ b. b || has ns n) e) ∙ there)

module _ (task : Parts) (s : FlatState) where
  -- a step that needs a fact that is false isn't applicable
  unmet : (step : FlatStep) (p : ℕ) → NeedsFact task step p → has s.facts p ≡ false → meets task s step ≡ false
  unmet step p needs false_here =
      list_all_at (holds task s) step.needs needs.index needs.need (slice_get_within step.needs needs.index needs.need needs.needed)
      (ap (holds task s) (get_or_from_slice_get step.needs needs.index needs.need needs.need needs.needed)
      ∙ ap (λ o. option_map_or (subgoal_holds s) o false) needs.is_fact ∙ false_here)

  not_next : (n : ℕ) (step : FlatStep) (after : FlatState) → slice_get task.steps n ≡ Some step → meets task s step ≡ false → next task n s ≡ Some after → ⊥
  not_next n step after there unmet leads =
      none-some after (sym (ap (λ o. option_and_then (λ (x : FlatStep). if meets task s x then Some (state_after x s) else None) o) there ∙ ap (λ b. if b then Some (state_after step s) else None) unmet) ∙ leads)

step_at : (steps : List FlatStep) (n : ℕ) → n < length steps → (step : FlatStep) × (slice_get steps n ≡ Some step)
step_at [] n lt = absurd (omega arith)
step_at (step ∷ steps) zero lt = (step, refl)
step_at (step ∷ steps) (suc n) lt = step_at steps n (omega arith)

-- where each step that needs no fact is bounded, and each that is filed under a true fact, all are
module _ (task : Parts) (entries : List Entry) (e : Entry) (table : List (List ℕ)) (are : AreFiled task (length task.steps) table)
    (needing_none : All (IsBounded task entries e) (row table (length task.facts)))
    (needing : All (λ p. All (IsBounded task entries e) (row table p)) e.state.facts) where
  filed_bounded : (n : ℕ) (step : FlatStep) (p : ℕ) → slice_get task.steps n ≡ Some step → has (row table p) n ≡ true → (p ≡ length task.facts) ⊎ NeedsFact task step p → IsBounded task entries e n
  filed_bounded n step p there filed (inl last) = all_in (IsBounded task entries e) (row table (length task.facts)) n needing_none (subst (λ k. has (row table k) n ≡ true) last filed)
  filed_bounded n step p there filed (inr needs) = by (has e.state.facts p) refl
    where
      by : (b : Bool) → has e.state.facts p ≡ b → IsBounded task entries e n
      by true h = all_in (IsBounded task entries e) (row table p) n (all_in (λ k. All (IsBounded task entries e) (row table k)) e.state.facts p needing h) filed
      by false h = λ after leads. absurd (not_next task e.state n step after there (unmet task e.state step p needs h) leads)

  pub watched_bounded : (n : ℕ) → n < length task.steps → IsBounded task entries e n
  watched_bounded n lt =
      let there = step_at task.steps n lt in
      let filed = are.each n there.0 lt there.1 in
      filed_bounded n there.0 filed.place there.1 filed.filed filed.own
