-- Subgoals that can come to hold when what steps make false is forgotten (Bonet and Geffner 2001, the relaxed problem).
use Rattle.std.specs.Prelude.{◌≡◌, ℕ, Bool, true, false, List, slice_get, slice_index_or, Some, All}
use Rattle.std.specs.List.{list_all}
use Rattle.np_flat.specs.declared.state.FlatState.{FlatState}
use Rattle.np_flat.specs.declared.parts.FlatStep.{FlatStep}
use Rattle.np_flat.specs.declared.parts.Parts.{Parts}
use Rattle.np_flat.specs.States.{holds}
use Rattle.np_flat.specs.Achieving.{achieves_at}
use Rattle.np_flat.specs.Plans.{run_from}
use Rattle.np_flat.specs.Flats.{IsStateOf, IsFlat}

-- the set of the numbers whose bits are on
abbrev pub on : List Bool → ℕ → Bool
on bits q = slice_index_or bits q false

-- a set of subgoals that has each one that holds in the state, and each one that a step achieves that isn't removed and whose needs are all in the set
pub record IsClosed (task : Parts) (s : FlatState) (removed set : ℕ → Bool) : Type 0 where
  pub true_ones : (q : ℕ) → holds task s q ≡ true → set q ≡ true
  pub achieved : (n q : ℕ) (step : FlatStep) → slice_get task.steps n ≡ Some step → removed n ≡ false → list_all set step.needs ≡ true → achieves_at task step q ≡ true → set q ≡ true

-- the least of these sets
pub record IsLeast (task : Parts) (s : FlatState) (removed set : ℕ → Bool) : Type 0 where
  pub closed : IsClosed task s removed set
  pub least : (others : ℕ → Bool) → IsClosed task s removed others → (q : ℕ) → set q ≡ true → others q ≡ true

-- what holds after a run of steps that aren't removed is in each closed set
abbrev pub RunsStayIn : Type 0
RunsStayIn = (task : Parts) (s t : FlatState) (removed set : ℕ → Bool) (numbers : List ℕ) → IsFlat task → IsStateOf task s → IsClosed task s removed set → All (λ n. removed n ≡ false) numbers → run_from task numbers s ≡ Some t → (q : ℕ) → holds task t q ≡ true → set q ≡ true
