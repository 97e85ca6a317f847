-- Runs of the space as runs of the flat task, and how large their costs and values are.
use Rattle.std.proofs.Common.{◌≡◌, ℕ, ◌+◌, ◌*◌, ◌^◌, ◌≤◌, List, [], ◌∷◌, length, Option, None, Some, slice_get, refl, sym, ap, ◌∙◌, subst, arith}
use Rattle.std.specs.Option.{option_map, option_map_or}
use Rattle.std.proofs.lemmas.Option.{some_pair_parts, none-some}
use Rattle.np_state.specs.StateValues.{StateValue}
use Rattle.np_space.specs.Runs.{run}
use Rattle.np_flat.specs.declared.state.FlatState.{FlatState}
use Rattle.np_flat.specs.declared.parts.FlatStep.{FlatStep}
use Rattle.np_flat.specs.declared.parts.Parts.{Parts}
use Rattle.np_flat.specs.Flats.{IsFlat}
use Rattle.np_flat.specs.Laws.{IsStateBelow}
use Rattle.np_flat.specs.Plans.{run_from, cost_of, cost_sum, Reaches}
use Rattle.np_flat.proofs.Runs.{step_there, small_from_start}
use Rattle.np_blind.specs.Readings.{flat_of, state_of}
use Rattle.np_blind.specs.Spaces.{first_of, next_of}
use Rattle.np_blind.proofs.Readings.{flat_back}
use Rattle.np_blind.proofs.Runs.{same_runs}

-- the steps lead from the flat start to the flat state that a state is read as, at the same cost
pub record IsFlatRun (task : Parts) (steps : List ℕ) (s : StateValue) (cost : ℕ) : Type 0 where
  pub runs : run_from task steps task.start ≡ Some (flat_of s)
  pub costs : cost ≡ cost_sum task steps
  pub same : state_of task (flat_of s) ≡ s
  pub below : IsStateBelow task (2 ^ 62 * (1 + length steps)) (flat_of s)

pub flat_run : (task : Parts) (steps : List ℕ) (s : StateValue) (cost : ℕ) → IsFlat task → run (next_of task) steps (first_of task) ≡ Some (s, cost) → IsFlatRun task steps s cost
flat_run task steps s cost flat ran = by (run_from task steps task.start) refl (sym (same_runs task flat steps) ∙ ran)
  where
    by : (o : Option FlatState) → run_from task steps task.start ≡ o → option_map {U = StateValue × ℕ} (λ (t : FlatState). (state_of task t, cost_sum task steps)) o ≡ Some (s, cost)
        → IsFlatRun task steps s cost
    by None e f = absurd (none-some (s, cost) f)
    by (Some t) e f =
        let parts = some_pair_parts (state_of task t) s (cost_sum task steps) cost f in
        let below = small_from_start task steps t flat e in
        let is : flat_of s ≡ t = ap flat_of (sym parts.0) ∙ flat_back task t below.state in
        record {
          runs = e ∙ ap Some (sym is);
          costs = sym parts.1;
          same = ap (state_of task) is ∙ parts.0;
          below = subst (IsStateBelow task (2 ^ 62 * (1 + length steps))) (sym is) below;
        }

pub run_reaches : (task : Parts) (steps : List ℕ) (s : StateValue) (cost : ℕ) → IsFlatRun task steps s cost → Reaches task (flat_of s) cost
run_reaches task steps s cost r = record { numbers = steps; runs = r.runs; costs = r.costs }

-- a step costs at most 2^32
price_small : (task : Parts) (n : ℕ) → IsFlat task → cost_of task n ≤ 2 ^ 32
price_small task n flat = by (slice_get task.steps n) refl
  where
    by : (o : Option FlatStep) → slice_get task.steps n ≡ o → option_map_or (λ (step : FlatStep). step.cost) o 0 ≤ 2 ^ 32
    by None e = omega arith
    by (Some step) e = let h = (step_there task n step flat e).cost in omega (arith, h)

-- and so does each of a list
pub cost_small : (task : Parts) (steps : List ℕ) → IsFlat task → cost_sum task steps ≤ length steps * 2 ^ 32
cost_small task [] flat = omega arith
cost_small task (n ∷ ns) flat = let here = price_small task n flat in let rest = cost_small task ns flat in omega (arith, here, rest)
