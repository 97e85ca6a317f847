-- What the steps of a run leave: net changes are added, and values stay small.
use Rattle.std.proofs.Common.{◌≡◌, ℕ, ◌+◌, ◌*◌, ◌^◌, pos, ◌+ℤ◌, List, [], ◌∷◌, length, Some, sym, ap, ◌∙◌, subst, arith}
use Rattle.std.specs.Prelude.{slice_get}
use Rattle.std.specs.Option.{option_map_or}
use Rattle.std.proofs.lemmas.Option.{same_Some, option_and_then_some, cond_some, slice_get_within, get_or_from_slice_get}
use Rattle.np_flat.specs.declared.limits.TheConstants.{CHANGE_SIZE}
use Rattle.np_flat.specs.declared.state.FlatState.{FlatState}
use Rattle.np_flat.specs.declared.parts.Form.{Form}
use Rattle.np_flat.specs.declared.parts.FlatStep.{FlatStep}
use Rattle.np_flat.specs.declared.parts.Parts.{Parts}
use Rattle.np_flat.specs.Flats.{IsStateOf, IsStep, IsFlat}
use Rattle.np_flat.specs.States.{form_value, meets, state_after, next}
use Rattle.np_flat.specs.Achieving.{net, net_of}
use Rattle.np_flat.specs.Plans.{run_from}
use Rattle.np_flat.specs.Laws.{IsStateBelow}
use Rattle.np_flat.proofs.Steps.{state_of_after, below_after}
use Rattle.np_flat.proofs.NetChanges.{form_changed}

-- a step that is taken is one of the task's, and leads to the state after it
pub taken : {P : Type 0} (task : Parts) (n : ℕ) (s t : FlatState) → next task n s ≡ Some t → ((step : FlatStep) → slice_get task.steps n ≡ Some step → state_after step s ≡ t → P) → P
taken task n s t e k =
    option_and_then_some _ (slice_get task.steps n) t e
    (λ step at made. k step at (cond_some (meets task s step) (state_after step s) t made).1)

-- the step of this number is one of the task's
pub step_there : (task : Parts) (n : ℕ) (step : FlatStep) → IsFlat task → slice_get task.steps n ≡ Some step → IsStep (length task.facts) (length task.values) (length task.subgoals) step
step_there task n step flat at =
    subst (IsStep (length task.facts) (length task.values) (length task.subgoals)) (get_or_from_slice_get task.steps n step step at) (flat.steps n step (slice_get_within task.steps n step at))

pub small_next : (task : Parts) (size n : ℕ) (s t : FlatState) → IsFlat task → IsStateBelow task size s → next task n s ≡ Some t → IsStateBelow task (size + 2 ^ 62) t
small_next task size n s t flat small e =
    taken task n s t e
    (λ step at gives.
    let of = step_there task n step flat at in
    subst (IsStateBelow task (size + 2 ^ 62)) gives record {
      state = state_of_after (length task.facts) (length task.values) (length task.subgoals) step s of small.state;
      values = below_after (length task.facts) (length task.values) (length task.subgoals) size step s of small.values;
    })

-- a step adds its net change
pub step_adds_net : (task : Parts) (n : ℕ) (form : Form) (s t : FlatState) → IsFlat task → IsStateOf task s → next task n s ≡ Some t → form_value form t ≡ form_value form s +ℤ net_of task n form
step_adds_net task n form s t flat of e =
    taken task n s t e
    (λ step at gives.
    let net_is : net_of task n form ≡ net step form = ap (λ o. option_map_or (λ (x : FlatStep). net x form) o (pos 0)) at in
    subst (λ (u : FlatState). form_value form u ≡ form_value form s +ℤ net_of task n form) gives
    (form_changed (length task.values) CHANGE_SIZE step form s (step_there task n step flat at).changes of.count ∙ ap (λ z. form_value form s +ℤ z) (sym net_is)))

small_at : (task : Parts) (size more : ℕ) (s : FlatState) → size ≡ more → IsStateBelow task size s → IsStateBelow task more s
small_at task size more s e small = subst (λ n. IsStateBelow task n s) e small

pub small_run : (task : Parts) (numbers : List ℕ) (size : ℕ) (s t : FlatState) → IsFlat task → IsStateBelow task size s → run_from task numbers s ≡ Some t → IsStateBelow task (size + 2 ^ 62 * length numbers) t
small_run task [] size s t flat small e = small_at task size (size + 2 ^ 62 * 0) t (omega arith) (subst (IsStateBelow task size) (same_Some s t e) small)
small_run task (n ∷ ns) size s t flat small e =
    option_and_then_some (run_from task ns) (next task n s) t e
    (λ u first rest.
    small_at task (size + 2 ^ 62 + 2 ^ 62 * length ns) (size + 2 ^ 62 * length (n ∷ ns)) t (omega arith)
    (small_run task ns (size + 2 ^ 62) u t flat (small_next task size n s u flat small first) rest))

pub small_from_start : (task : Parts) (numbers : List ℕ) (t : FlatState) → IsFlat task → run_from task numbers task.start ≡ Some t → IsStateBelow task (2 ^ 62 * (1 + length numbers)) t
small_from_start task numbers t flat e =
    small_at task (2 ^ 62 + 2 ^ 62 * length numbers) (2 ^ 62 * (1 + length numbers)) t (omega arith)
    (small_run task numbers (2 ^ 62) task.start t flat (record { state = flat.start; values = flat.small_start }) e)
