-- What a space answers about a goal and about a step.
use Rattle.std.proofs.Common.{◌≡◌, ℕ, ◌<◌, ◌^◌, Bool, true, false, ℤ, List, length, get_or, All, Option, None, Some, refl, sym, ap, ◌∙◌, subst}
use Rattle.std.specs.Prelude.{slice_get, if◌then◌else◌}
use Rattle.std.specs.List.{list_all}
use Rattle.std.specs.Option.{option_map, option_map_or, option_and_then}
use Rattle.std.proofs.lemmas.Option.{slice_get_read}
use Rattle.np_frac.specs.Fractions.{whole}
use Rattle.np_state.specs.StateValues.{StateValue}
use Rattle.np_state.specs.declared.state.State.{State}
use Rattle.np_state.specs.States.{value_of}
use Rattle.np_space.specs.Runs.{IsReachedWithin}
use Rattle.np_flat.specs.declared.state.FlatState.{FlatState}
use Rattle.np_flat.specs.declared.parts.FlatStep.{FlatStep}
use Rattle.np_flat.specs.declared.parts.Parts.{Parts}
use Rattle.np_flat.specs.Flats.{IsFlat, IsStep, AreAmounts, AreWithinLimit}
use Rattle.np_flat.specs.States.{holds, meets, state_after, next}
use Rattle.np_flat.specs.Plans.{cost_of}
use Rattle.np_flat.proofs.Runs.{step_there}
use Rattle.np_blind.specs.Readings.{state_of, state_with, read}
use Rattle.np_blind.specs.Sizes.{IsSmallState}
use Rattle.np_blind.specs.Spaces.{first_of, is_goal_at, next_of}
use Rattle.np_blind.proofs.Readings.{read_is}
use Rattle.np_blind.proofs.Runs.{small_state}

-- the parts that the code reads are the task
module _ (task parts : Parts) (s : State ℤ) (same : parts ≡ task) (flat : IsFlat task) (reached : IsReachedWithin (next_of task) (first_of task) (2 ^ 24) (value_of whole s)) where
  pub is_small : IsSmallState parts s
  is_small = subst (λ (p : Parts). IsSmallState p s) (sym same) (small_state task s flat reached)

  pub goal_is : (goal : List ℕ) → goal ≡ parts.goal → list_all (holds parts (read s)) goal ≡ is_goal_at task (value_of whole s)
  goal_is goal e =
      ap (list_all (holds parts (read s))) e
      ∙ ap (λ (p : Parts). list_all (holds p (read s)) p.goal) same
      ∙ ap (λ (t : FlatState). list_all (holds task t) task.goal) (sym (read_is s))

  -- the step of a number
  module _ (n : ℕ) (xs : List FlatStep) (step : FlatStep) (items : xs ≡ parts.steps) (within : n < length task.steps) (read_at : step ≡ get_or xs n step) where
    at : slice_get task.steps n ≡ Some step
    at = slice_get_read task.steps (length task.steps) n step refl within (read_at ∙ ap (λ ys. get_or ys n step) (items ∙ ap (λ (p : Parts). p.steps) same))

    of : IsStep (length task.facts) (length task.values) (length task.subgoals) step
    of = step_there task n step flat at

    small : IsSmallState task s
    small = small_state task s flat reached

    pub adds_within : All (λ p. p < length s.facts) step.adds
    adds_within = subst (λ n. All (λ p. p < n) step.adds) (sym small.facts) of.adds.within

    pub deletes_within : All (λ p. p < length s.facts) step.deletes
    deletes_within = subst (λ n. All (λ p. p < n) step.deletes) (sym small.facts) of.deletes.within

    pub changes_are : AreAmounts (length s.cells.items) (2 ^ 62) step.changes
    changes_are = subst (λ n. AreAmounts n (2 ^ 62) step.changes) (sym small.cells) of.changes

    pub within_limit : AreWithinLimit s.cells.items
    within_limit = small.small

    -- what it leads to, by whether its needs hold
    by_needs : Bool → Option (StateValue × ℕ)
    by_needs b = option_map (λ (t : FlatState). (state_of task t, step.cost)) (if b then Some (state_after step (read s)) else None)

    answered : next_of task (value_of whole s) n ≡ by_needs (meets task (read s) step)
    unfolding by_needs
    answered =
        ap (λ (t : FlatState). option_map (λ (u : FlatState). (state_of task u, cost_of task n)) (next task n t)) (read_is s)
        ∙ ap (λ (o : Option FlatStep). option_map (λ (u : FlatState). (state_of task u, option_map_or (λ (x : FlatStep). x.cost) o 0)) (option_and_then (λ (x : FlatStep). if meets task (read s) x then Some (state_after x (read s)) else None) o)) at

    needs_are : (needs : List ℕ) → needs ≡ step.needs → list_all (holds parts (read s)) needs ≡ meets task (read s) step
    needs_are needs e = ap (list_all (holds parts (read s))) e ∙ ap (λ (p : Parts). list_all (holds p (read s)) step.needs) same

    -- it isn't applicable
    pub next_none : (needs : List ℕ) → needs ≡ step.needs → false ≡ list_all (holds parts (read s)) needs → None ≡ next_of task (value_of whole s) n
    unfolding by_needs
    next_none needs e never = sym (answered ∙ ap by_needs (sym (never ∙ needs_are needs e)))

    -- it is applicable
    pub next_some : (needs : List ℕ) (after : StateValue) → needs ≡ step.needs → true ≡ list_all (holds parts (read s)) needs → after ≡ state_with (length s.facts) (state_after step (read s)) → Some (after, step.cost) ≡ next_of task (value_of whole s) n
    unfolding by_needs
    next_some needs after e all is =
        ap (λ (v : StateValue). Some (v, step.cost)) (is ∙ ap (λ (c : ℕ). state_with c (state_after step (read s))) small.facts)
        ∙ sym (answered ∙ ap by_needs (sym (all ∙ needs_are needs e)))
