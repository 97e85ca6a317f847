-- Distinct states by number.
use Rattle.std.specs.Prelude.{◌≡◌, ◌≢◌, ℕ, Bool, List, [], ◌∷◌, ◌++◌, Some, length, slice_get, MatchBool}
use Rattle.np_state.specs.StateValues.{StateValue}

-- no state has two numbers
pub record AreDistinct (states : List StateValue) : Type 0 where
  pub one_number : (i j : ℕ) (s : StateValue) → slice_get states i ≡ Some s → slice_get states j ≡ Some s → i ≡ j

-- the state goes last, and wasn't there
pub record IsAdded (old new : List StateValue) (s : StateValue) (i : ℕ) : Type 0 where
  pub last : new ≡ old ++ s ∷ []
  pub number : i ≡ length old
  pub absent : (j : ℕ) → slice_get old j ≢ Some s

-- the list stays, and has the state
pub record IsFound (old new : List StateValue) (s : StateValue) (i : ℕ) : Type 0 where
  pub same : new ≡ old
  pub there : slice_get old i ≡ Some s

-- i is the number of the state, which is new or was there
abbrev pub IsNumberOf : List StateValue → List StateValue → StateValue → ℕ → Bool → Type 0
IsNumberOf old new s i added = MatchBool added (IsAdded old new s i) (IsFound old new s i)
