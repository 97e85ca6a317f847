-- What a step does to subgoals: those that come to hold are achieved.
use Rattle.std.proofs.Common.{◌≡◌, ◌⊎◌, ℕ, ℤ, pos, ◌+ℤ◌, Bool, true, false, not, ◌&&◌, ◌||◌, List, length, Option, Some, None, refl, sym, ap, ◌∙◌, subst, inl, inr, arith}
use Rattle.std.specs.Prelude.{filter, slice_get, int_lt, int_le, ◌≤ℤ◌}
use Rattle.std.specs.Option.{option_map_or}
use Rattle.std.proofs.lemmas.Int.{ints}
use Rattle.std.proofs.lemmas.Bool.{cases_Bool}
use Rattle.np_flat.specs.declared.limits.TheConstants.{CHANGE_SIZE}
use Rattle.np_flat.specs.declared.state.FlatState.{FlatState}
use Rattle.np_flat.specs.declared.parts.Subgoal.{Subgoal}
use Rattle.np_flat.specs.declared.parts.Subgoal.TheVariants as subgoal
use Rattle.np_flat.specs.declared.parts.FlatStep.{FlatStep}
use Rattle.np_flat.specs.declared.parts.Parts.{Parts}
use Rattle.np_flat.specs.Flats.{IsStateOf, IsStep, IsFlat}
use Rattle.np_flat.specs.States.{has, facts_after, form_value, subgoal_holds, holds, state_after, next}
use Rattle.np_flat.specs.Achieving.{net, achieves, achieves_at, achieved_by}
use Rattle.np_flat.proofs.Ascending.{has_put_all}
use Rattle.np_flat.proofs.Index.{has_filter}
use Rattle.np_flat.proofs.NetChanges.{form_changed}
use Rattle.np_flat.proofs.Runs.{taken, step_there}

-- a fact is true after a step where the step adds it, or where it was true and the step doesn't delete it
pub has_after : (step : FlatStep) (facts : List ℕ) (p : ℕ) → has (facts_after step facts) p ≡ (has step.adds p || (has facts p && not (has step.deletes p)))
has_after step facts p =
    has_put_all step.adds (filter (λ q. not (has step.deletes q)) facts) p
    ∙ ap (λ b. has step.adds p || b) (has_filter (λ q. not (has step.deletes q)) facts p)

-- what is true after was true before, or was added
came : (added before deleted after : Bool) → after ≡ (added || (before && not deleted)) → after ≡ true → (before ≡ true) ⊎ (added ≡ true)
came true before deleted after e t = inr refl
came false true deleted after e t = inl refl
came false false deleted after e t = absurd cc

-- what is false after was false before, or was deleted
went : (added before deleted after : Bool) → after ≡ (added || (before && not deleted)) → not after ≡ true → (not before ≡ true) ⊎ (deleted ≡ true)
went added before true after e t = inr refl
went added false false after e t = inl refl
went true true false after e t = absurd cc
went false true false after e t = absurd cc

at_most_0 : (a : ℤ) → int_lt (pos 0) a ≡ false → a ≤ℤ pos 0
at_most_0 a h = grind (arith, ints)

higher : (v d w : ℤ) → w ≡ v +ℤ d → d ≤ℤ pos 0 → int_le (pos 0) w ≡ true → int_le (pos 0) v ≡ true
higher v d w e low h = grind (arith, ints)

module _ (task : Parts) (step : FlatStep) (s : FlatState) (of : IsStep (length task.facts) (length task.values) (length task.subgoals) step) (state : IsStateOf task s) where
  kept : (goal : Subgoal) → subgoal_holds (state_after step s) goal ≡ true → (subgoal_holds s goal ≡ true) ⊎ (achieves step goal ≡ true)
  kept (subgoal.Fact p) h = came (has step.adds p) (has s.facts p) (has step.deletes p) (has (facts_after step s.facts) p) (has_after step s.facts p) h
  kept (subgoal.NotFact p) h = went (has step.adds p) (has s.facts p) (has step.deletes p) (has (facts_after step s.facts) p) (has_after step s.facts p) h
  kept (subgoal.Form form) h =
      elim (cases_Bool (int_lt (pos 0) (net step form))) [
        | inl e ↦ inr e
        | inr e ↦ inl (higher (form_value form s) (net step form) (form_value form (state_after step s))
            (form_changed (length task.values) CHANGE_SIZE step form s of.changes state.count) (at_most_0 (net step form) e) h)
      ]

  kept_at : (o : Option Subgoal) → option_map_or (subgoal_holds (state_after step s)) o false ≡ true → (option_map_or (subgoal_holds s) o false ≡ true) ⊎ (option_map_or (achieves step) o false ≡ true)
  kept_at None h = absurd cc
  kept_at (Some goal) h = kept goal h

-- a subgoal that holds after a step held before it, or the step achieves it
pub kept_or_achieved : (task : Parts) (n q : ℕ) (s t : FlatState) → IsFlat task → IsStateOf task s → next task n s ≡ Some t → holds task t q ≡ true → (holds task s q ≡ true) ⊎ (achieved_by task n q ≡ true)
kept_or_achieved task n q s t flat of e h =
    taken task n s t e
    (λ step at gives.
    elim (kept_at task step s (step_there task n step flat at) of (slice_get task.subgoals q) (subst (λ (u : FlatState). holds task u q ≡ true) (sym gives) h)) [
      | inl k ↦ inl k
      | inr a ↦ inr (ap (λ o. option_map_or (λ (x : FlatStep). achieves_at task x q) o false) at ∙ a)
    ])
