-- Subgoals are turned on one after the other, and wait until the steps that need them are looked at.
use Rattle.std.specs.Prelude.{◌≡◌, ℕ, ◌+◌, ◌<◌, Bool, true, false, not, ◌&&◌, List, [], ◌∷◌, ◌++◌, length, filter, slice_get, slice_set, get_or, Option, Some, None, if◌then◌else◌, All}
use Rattle.std.specs.List.{list_all, range_with_len}
use Rattle.np_flat.specs.declared.state.FlatState.{FlatState}
use Rattle.np_flat.specs.declared.parts.Parts.{Parts}
use Rattle.np_flat.specs.States.{has, holds}
use Rattle.np_flat.specs.Achieving.{achieved_by}
use Rattle.np_relax.specs.Closed.{IsClosed, on}
use Rattle.np_relax.specs.Needing.{needs_of}

-- what the step of this number achieves, ascending
abbrev pub achieved : Parts → ℕ → List ℕ
achieved task n = filter (achieved_by task n) (range_with_len 0 (length task.subgoals))

-- numbers turned on; those that were off wait
abbrev pub turned : List ℕ → List Bool → List ℕ → List Bool × List ℕ
turned [] can work = (can, work)
turned (q ∷ qs) can work = if on can q then turned qs can work else turned qs (slice_set can q true) (work ++ q ∷ [])

-- whether a step isn't removed and all its needs are on
abbrev pub fires : Parts → List Bool → List Bool → ℕ → Bool
fires task removed can n = not (on removed n) && list_all (on can) (needs_of task n)

-- what the step achieves, turned on, where it fires
abbrev pub fired : Parts → List Bool → ℕ → List Bool → List ℕ → List Bool × List ℕ
fired task removed n can work = if fires task removed can n then turned (achieved task n) can work else (can, work)

-- the same of these steps, one after the other
abbrev pub handled : Parts → List Bool → List ℕ → List Bool → List ℕ → List Bool × List ℕ
handled task removed [] can work = (can, work)
handled task removed (n ∷ ns) can work = handled task removed ns (fired task removed n can work).0 (fired task removed n can work).1

-- how many are off
abbrev pub off : List Bool → ℕ
off [] = 0
off (b ∷ bs) = (if b then 0 else 1) + off bs

-- where a step isn't removed, and all its needs are on and none waits, what it achieves is on
abbrev pub IsDone : Parts → List Bool → ℕ → List Bool → List ℕ → Type 0
IsDone task removed n can work =
    on removed n ≡ false → ((q : ℕ) → has (needs_of task n) q ≡ true → (on can q ≡ true) × (has work q ≡ false)) → (q : ℕ) → achieved_by task n q ≡ true → on can q ≡ true

-- the first so many steps are done, and only what is in each closed set is on
pub record IsGoing (task : Parts) (s : FlatState) (removed can : List Bool) (work : List ℕ) (steps : ℕ) : Type 0 where
  pub count : length can ≡ length task.subgoals
  pub within : All (λ q. q < length task.subgoals) work
  pub inside : (others : ℕ → Bool) → IsClosed task s (on removed) others → (q : ℕ) → on can q ≡ true → others q ≡ true
  pub true_ones : (q : ℕ) → holds task s q ≡ true → on can q ≡ true
  pub done : (n : ℕ) → n < steps → IsDone task removed n can work

-- by step the place of the need that it waits for, all before it on; none where all that the step achieves is on
pub record IsWatching (task : Parts) (can : List Bool) (watched : List (Option ℕ)) : Type 0 where
  pub count : length watched ≡ length task.steps
  pub before : (n p i : ℕ) → slice_get watched n ≡ Some (Some p) → i < p → on can (get_or (needs_of task n) i 0) ≡ true
  pub none : (n q : ℕ) → slice_get watched n ≡ Some None → achieved_by task n q ≡ true → on can q ≡ true
