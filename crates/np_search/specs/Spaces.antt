-- What a search leaves of a space.
use Rattle.std.specs.Prelude.{◌≡◌, ℕ, Bool}
use Rattle.np_state.specs.StateValues.{StateValue}
use Rattle.np_space.specs.Runs.{Next}
use Rattle.np_space.specs.declared.judged.Judged.{Judged}

-- it means the same, and what was known of bounds stays known
pub record IsSameSpace {S : Type 0} (first : S → StateValue) (goal : S → StateValue → Bool) (count : S → ℕ) (next_of : S → Next StateValue) (fits : S → StateValue → Judged → Type 0) (old new : S) : Type 0 where
  pub keeps : (s : StateValue) (j : Judged) → fits old s j → fits new s j
  pub same_first : first new ≡ first old
  pub same_goal : goal new ≡ goal old
  pub same_count : count new ≡ count old
  pub same_next : next_of new ≡ next_of old
