-- Runs of steps, and plans, in a space of states of any kind.
use Rattle.std.specs.Prelude.{◌≡◌, ℕ, ◌+◌, ◌<◌, ◌≤◌, ◌^◌, Bool, true, List, [], ◌∷◌, length, Option, Some, IfSome}
use Rattle.std.specs.Option.{option_and_then, option_map}

-- the state after a step and the step's cost, where the step is applicable
abbrev pub Next : Type 0 → Type 0
Next S = S → ℕ → Option (S × ℕ)

module _ {S : Type 0} (next : Next S) where
  -- the state after the steps and what they cost together, where each is applicable
  abbrev pub run : List ℕ → S → Option (S × ℕ)
  run [] s = Some (s, 0)
  run (step ∷ steps) s = option_and_then (λ t. option_map (λ (end : S × ℕ). (end.0, t.1 + end.1)) (run steps t.0)) (next s step)

  -- at most n steps lead from the first state to s
  pub record IsReachedWithin (first : S) (n : ℕ) (s : S) : Type 0 where
    pub steps : List ℕ
    pub cost : ℕ
    pub ran : run steps first ≡ Some (s, cost)
    pub few : length steps ≤ n

  -- some steps lead from the first state to s
  pub record IsReached (first : S) (s : S) : Type 0 where
    pub steps : List ℕ
    pub cost : ℕ
    pub ran : run steps first ≡ Some (s, cost)

  -- the steps lead from s to a goal at this cost
  pub record IsPlan (goal : S → Bool) (s : S) (steps : List ℕ) (cost : ℕ) : Type 0 where
    pub end : S
    pub ran : run steps s ≡ Some (end, cost)
    pub at_goal : goal end ≡ true

-- the cost of a step is below 2 ^ 32
abbrev pub HasSmallCost : {T : Type 0} → Option (T × ℕ) → Type 0
HasSmallCost next = IfSome next (λ t. t.1 < 2 ^ 32)
