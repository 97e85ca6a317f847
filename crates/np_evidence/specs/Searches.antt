-- What a search says of a flat task, and of the steps that the parents of its nodes give (scaffolding of the proof).
use Rattle.std.specs.Prelude.{ℕ, ◌≤◌, List, length}
use Rattle.std.proofs.Common.{reverse}
use Rattle.np_flat.specs.declared.parts.Parts.{Parts}
use Rattle.np_blind.specs.Spaces.{first_of, is_goal_at, next_of, IsBlind}
use Rattle.np_search.specs.declared.astar.Found.{Found}
use Rattle.np_search.specs.declared.tree.Node.{Node}
use Rattle.np_search.specs.Outcomes.{IsWayBack, IsOutcome}

-- what a search of the task's space answers
abbrev pub IsFoundIn : {C : Type 0} → Parts → ℕ → Found C → Type 0
IsFoundIn task n found = IsOutcome (next_of task) (is_goal_at task) (first_of task) (λ s j. IsBlind j) n found

-- the parents lead from a node back to the start in at most n steps
pub record HasWayBack (nodes : List Node) (i n : ℕ) : Type 0 where
  pub back : List ℕ
  pub way : IsWayBack nodes i back
  pub few : length back ≤ n

-- the parents lead from the start to a node by these steps
abbrev pub IsWayTo : List Node → ℕ → List ℕ → Type 0
IsWayTo nodes i steps = IsWayBack nodes i (reverse steps)
