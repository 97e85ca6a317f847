-- Runs and plans of the space and of the flat task.
use Rattle.std.proofs.Common.{◌≡◌, ℕ, ◌+◌, ◌*◌, ◌^◌, ◌<◌, ◌≤◌, ℤ, List, [], ◌∷◌, length, unsigned_abs, All, Option, None, Some, refl, sym, ap, ◌∙◌, subst, arith}
use Rattle.std.specs.Option.{option_map, option_and_then}
use Rattle.std.proofs.lemmas.Option.{some_pair_parts, none-some}
use Rattle.std.proofs.lemmas.List.Elements.{All-weaker}
use Rattle.np_frac.specs.Fractions.{whole}
use Rattle.np_state.specs.StateValues.{StateValue}
use Rattle.np_state.specs.declared.state.State.{State}
use Rattle.np_state.specs.States.{value_of}
use Rattle.np_space.specs.Runs.{run, IsPlan, IsReachedWithin}
use Rattle.np_flat.specs.declared.state.FlatState.{FlatState}
use Rattle.np_flat.specs.declared.parts.Parts.{Parts}
use Rattle.np_flat.specs.Flats.{IsStateOf, IsFlat}
use Rattle.np_flat.specs.States.{next, is_goal}
use Rattle.np_flat.specs.Plans.{run_from, cost_of, cost_sum, Leads}
use Rattle.np_flat.proofs.Steps.{state_of_after}
use Rattle.np_flat.proofs.Runs.{taken, step_there, small_from_start}
use Rattle.np_blind.specs.Readings.{flat_of, state_of}
use Rattle.np_blind.specs.Spaces.{first_of, is_goal_at, next_of}
use Rattle.np_blind.specs.Laws.{SameRuns, SamePlans, ReachedAreReadings, ReadingsApart}
use Rattle.np_blind.specs.Sizes.{IsSmallState}
use Rattle.np_blind.proofs.Readings.{flat_back, same_facts, same_values}

-- a step leads from a state of the task to one
state_next : (task : Parts) (n : ℕ) (s t : FlatState) → IsFlat task → IsStateOf task s → next task n s ≡ Some t → IsStateOf task t
state_next task n s t flat of e =
    taken task n s t e
    (λ step at gives. subst (IsStateOf task) gives (state_of_after (length task.facts) (length task.values) (length task.subgoals) step s (step_there task n step flat at) of))

-- what a flat state that steps lead to is in the space, with a cost
abbrev at_cost : Parts → ℕ → Option FlatState → Option (StateValue × ℕ)
at_cost task cost o = option_map (λ (t : FlatState). (state_of task t, cost)) o

-- one more step before
one_before : (task : Parts) (price cost : ℕ) (o : Option FlatState) → option_map {U = StateValue × ℕ} (λ (end : StateValue × ℕ). (end.0, price + end.1)) (at_cost task cost o) ≡ at_cost task (price + cost) o
one_before task price cost None = refl
one_before task price cost (Some t) = refl

-- the rest of a run after its first step
abbrev rest : Parts → List ℕ → Option (StateValue × ℕ) → Option (StateValue × ℕ)
rest task ns o = option_and_then (λ (t : StateValue × ℕ). option_map {U = StateValue × ℕ} (λ (end : StateValue × ℕ). (end.0, t.1 + end.1)) (run (next_of task) ns t.0)) o

same_run : (task : Parts) (steps : List ℕ) (s : FlatState) → IsFlat task → IsStateOf task s → run (next_of task) steps (state_of task s) ≡ at_cost task (cost_sum task steps) (run_from task steps s)
same_run task [] s flat of = refl
same_run task (n ∷ ns) s flat of =
    ap (λ (u : FlatState). rest task ns (at_cost task (cost_of task n) (next task n u))) (flat_back task s of)
    ∙ by (next task n s) refl (same_run task ns)
  where
    by : (o : Option FlatState) → next task n s ≡ o → ((t : FlatState) → IsFlat task → IsStateOf task t → run (next_of task) ns (state_of task t) ≡ at_cost task (cost_sum task ns) (run_from task ns t)) → rest task ns (at_cost task (cost_of task n) o) ≡ at_cost task (cost_of task n + cost_sum task ns) (option_and_then (run_from task ns) o)
    by None e more = refl
    by (Some t) e more =
        ap (λ r. option_map {U = StateValue × ℕ} (λ (end : StateValue × ℕ). (end.0, cost_of task n + end.1)) r) (more t flat (state_next task n s t flat of e))
        ∙ one_before task (cost_of task n) (cost_sum task ns) (run_from task ns t)

pub same_runs : SameRuns
same_runs task flat steps = same_run task steps task.start flat flat.start

-- steps that run in the space from its first state lead from the flat start to a flat state
record RanFlat (task : Parts) (steps : List ℕ) (s : StateValue) (cost : ℕ) : Type 0 where
  pub end : FlatState
  pub runs : run_from task steps task.start ≡ Some end
  pub state : IsStateOf task end
  pub is : s ≡ state_of task end
  pub costs : cost ≡ cost_sum task steps

ran_flat : (task : Parts) (steps : List ℕ) (s : StateValue) (cost : ℕ) → IsFlat task → run (next_of task) steps (first_of task) ≡ Some (s, cost) → RanFlat task steps s cost
ran_flat task steps s cost flat ran = by (run_from task steps task.start) refl (sym (same_runs task flat steps) ∙ ran)
  where
    by : (o : Option FlatState) → run_from task steps task.start ≡ o → at_cost task (cost_sum task steps) o ≡ Some (s, cost) → RanFlat task steps s cost
    by None e f = absurd (none-some (s, cost) f)
    by (Some t) e f =
        let parts = some_pair_parts (state_of task t) s (cost_sum task steps) cost f in
        record { end = t; runs = e; state = (small_from_start task steps t flat e).state; is = sym parts.0; costs = sym parts.1 }

to_flat : (task : Parts) (steps : List ℕ) (cost : ℕ) → IsFlat task → IsPlan (next_of task) (is_goal_at task) (first_of task) steps cost → Leads task task.start steps × (cost ≡ cost_sum task steps)
to_flat task steps cost flat plan =
    let ran = ran_flat task steps plan.end cost flat plan.ran in
    let same : flat_of plan.end ≡ ran.end = ap flat_of ran.is ∙ flat_back task ran.end ran.state in
    (record { end = ran.end; runs = ran.runs; goal = ap (is_goal task) (sym same) ∙ plan.at_goal }, ran.costs)

from_flat : (task : Parts) (steps : List ℕ) (cost : ℕ) → IsFlat task → Leads task task.start steps × (cost ≡ cost_sum task steps) → IsPlan (next_of task) (is_goal_at task) (first_of task) steps cost
from_flat task steps cost flat both =
    let leads = both.0 in
    record {
      end = state_of task leads.end;
      ran = same_runs task flat steps ∙ ap (at_cost task (cost_sum task steps)) leads.runs ∙ ap (λ (c : ℕ). Some (state_of task leads.end, c)) (sym both.1);
      at_goal = ap (is_goal task) (flat_back task leads.end (small_from_start task steps leads.end flat leads.runs).state) ∙ leads.goal;
    }

pub same_plans : SamePlans
same_plans task flat steps cost = (to_flat task steps cost flat, from_flat task steps cost flat)

pub reached_are_readings : ReachedAreReadings
reached_are_readings task flat s reached =
    let ran = ran_flat task reached.steps s reached.cost flat reached.ran in
    let same : flat_of s ≡ ran.end = ap flat_of ran.is ∙ flat_back task ran.end ran.state in
    record {
      state = subst (IsStateOf task) (sym same) ran.state;
      same = ap (state_of task) same ∙ sym ran.is;
      reaches = record { numbers = reached.steps; runs = ran.runs ∙ ap Some (sym same); costs = ran.costs };
    }

pub readings_apart : ReadingsApart
readings_apart task s t of of_other e = sym (flat_back task s of) ∙ ap flat_of e ∙ flat_back task t of_other

-- a state that few steps reach is small
pub small_state : (task : Parts) (s : State ℤ) → IsFlat task → IsReachedWithin (next_of task) (first_of task) (2 ^ 24) (value_of whole s) → IsSmallState task s
small_state task s flat reached =
    let ran = ran_flat task reached.steps (value_of whole s) reached.cost flat reached.ran in
    let below = small_from_start task reached.steps ran.end flat ran.runs in
    let values : s.cells.items ≡ ran.end.values = same_values task s ran.end ran.is in
    let few : length reached.steps ≤ 2 ^ 24 = reached.few in
    record {
      flat = flat;
      facts = same_facts task s ran.end ran.is;
      cells = ap length values ∙ below.state.count;
      small =
          subst (λ (zs : List ℤ). All (λ z. unsigned_abs z < 2 ^ 87) zs) (sym values)
          (All-weaker (λ (z : ℤ). unsigned_abs z < 2 ^ 62 * (1 + length reached.steps)) (λ (z : ℤ). unsigned_abs z < 2 ^ 87) (λ z h. omega arith) ran.end.values below.values);
    }
