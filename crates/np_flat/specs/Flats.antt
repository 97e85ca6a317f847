-- What every flat task keeps: limits, and that each number names an item of its list. The limits are this project's own.
use Rattle.std.specs.Prelude.{◌≡◌, ◌≢◌, ℕ, ◌+◌, ◌<◌, ◌≤◌, ℤ, pos, ◌<ℤ◌, unsigned_abs, List, map, length, All, AllPairs, Contains}
use Rattle.np_flat.specs.declared.limits.TheConstants.{MOST_FACTS, MOST_VALUES, MOST_SUBGOALS, MOST_STEPS, MOST_TERMS, CHANGE_SIZE, COEFFICIENT_SIZE, CONSTANT_SIZE, COST_SIZE, VALUE_SIZE}
use Rattle.np_flat.specs.declared.state.FlatState.{FlatState}
use Rattle.np_flat.specs.declared.parts.Form.{Form}
use Rattle.np_flat.specs.declared.parts.Subgoal.{Subgoal}
use Rattle.np_flat.specs.declared.parts.Subgoal.TheVariants as subgoal
use Rattle.np_flat.specs.declared.parts.FlatStep.{FlatStep}
use Rattle.np_flat.specs.declared.parts.Parts.{Parts}

-- each number is less than the next one
abbrev pub IsAscending : List ℕ → Type 0
IsAscending numbers = AllPairs (λ m n. m < n) numbers

-- ascending numbers below the limit
pub record AreNumbers (limit : ℕ) (numbers : List ℕ) : Type 0 where
  pub ascending : IsAscending numbers
  pub within : All (λ n. n < limit) numbers

-- the size of each is below the limit
abbrev pub AreBelow : ℕ → List ℤ → Type 0
AreBelow limit numbers = All (λ n. unsigned_abs n < limit) numbers

-- the values of a state are within the limit, so that the state after a step can be computed
abbrev pub AreWithinLimit : List ℤ → Type 0
AreWithinLimit values = AreBelow VALUE_SIZE values

-- values are within the limit, or past it by at most one change, so that the value of a form can be computed
abbrev pub AreSmall : List ℤ → Type 0
AreSmall values = All (λ v. unsigned_abs v ≤ VALUE_SIZE + CHANGE_SIZE) values

-- so many values, and ascending numbers of so many facts
pub record IsState (facts values : ℕ) (s : FlatState) : Type 0 where
  pub facts_are : AreNumbers facts s.facts
  pub count : length s.values ≡ values

-- a state of the task
abbrev pub IsStateOf : Parts → FlatState → Type 0
IsStateOf task s = IsState (length task.facts) (length task.values) s

-- amounts by ascending number below the limit: none is 0, and each is below this size
pub record AreAmounts (limit size : ℕ) (amounts : List (ℕ × ℤ)) : Type 0 where
  pub numbers : AreNumbers limit (map (λ a. a.0) amounts)
  pub some : All (λ a. a.1 ≢ pos 0) amounts
  pub small : AreBelow size (map (λ a. a.1) amounts)

-- a form over so many values: few terms, and its constant and coefficients within their limits
pub record IsForm (values : ℕ) (form : Form) : Type 0 where
  pub constant : unsigned_abs form.constant < CONSTANT_SIZE
  pub few : length form.terms ≤ MOST_TERMS
  pub terms : AreAmounts values COEFFICIENT_SIZE form.terms

abbrev pub IsSubgoal : ℕ → ℕ → Subgoal → Type 0
IsSubgoal facts values (subgoal.Fact p) = p < facts
IsSubgoal facts values (subgoal.NotFact p) = p < facts
IsSubgoal facts values (subgoal.Form form) = IsForm values form

-- a step: its changes and its cost are within their limits
pub record IsStep (facts values subgoals : ℕ) (step : FlatStep) : Type 0 where
  pub needs : AreNumbers subgoals step.needs
  pub adds : AreNumbers facts step.adds
  pub deletes : AreNumbers facts step.deletes
  pub apart : All (λ p. Contains step.adds p → ⊥) step.deletes
  pub changes : AreAmounts values CHANGE_SIZE step.changes
  pub cost : step.cost < COST_SIZE

-- a flat task; no two subgoals are equal, and no two steps stand for one step
pub record IsFlat (task : Parts) : Type 0 where
  pub positive : pos 0 <ℤ task.unit
  pub unit : unsigned_abs task.unit < CHANGE_SIZE
  pub few_facts : length task.facts ≤ MOST_FACTS
  pub few_values : length task.values ≤ MOST_VALUES
  pub few_subgoals : length task.subgoals ≤ MOST_SUBGOALS
  pub few_steps : length task.steps ≤ MOST_STEPS
  pub start : IsStateOf task task.start
  pub small_start : AreBelow CHANGE_SIZE task.start.values
  pub subgoals : All (IsSubgoal (length task.facts) (length task.values)) task.subgoals
  pub distinct_subgoals : AllPairs (λ a b. a ≢ b) task.subgoals
  pub steps : All (IsStep (length task.facts) (length task.values) (length task.subgoals)) task.steps
  pub distinct : AllPairs (λ a b. a ≢ b) (map (λ step. step.step) task.steps)
  pub goal : AreNumbers (length task.subgoals) task.goal
