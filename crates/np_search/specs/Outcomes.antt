-- What a search answers.
use Rattle.std.specs.Prelude.{◌≡◌, ◌≢◌, ℕ, ◌≤◌, Bool, true, false, List, [], ◌∷◌, None, Some, length, slice_get, count_by}
use Rattle.std.proofs.Common.{reverse}
use Rattle.np_state.specs.StateValues.{StateValue}
use Rattle.np_state.specs.Interning.{AreDistinct}
use Rattle.np_space.specs.Runs.{Next, run, IsPlan, IsReached}
use Rattle.np_space.specs.Bounds.{IsAtMostCost, IsSmallBound, is_at_most}
use Rattle.np_space.specs.declared.bound.Bound.{Bound}
use Rattle.np_space.specs.declared.bound.Bound.TheVariants.{AtLeast, NoPlan}
use Rattle.np_space.specs.declared.judged.Judged.{Judged}
use Rattle.np_search.specs.declared.astar.Found.{Found}
use Rattle.np_search.specs.declared.astar.Found.TheVariants.{Goal, Empty, Spent}
use Rattle.np_search.specs.declared.tree.Node.{Node}
use Rattle.np_search.specs.Frontiers.{IsKeptAt, IsFrontier, f_value}

-- how many states are expanded
abbrev pub expanded_count : List Node → ℕ
expanded_count nodes = count_by (λ node. node.expanded) nodes

-- the parents lead from a node back to the start by these steps, the last step first
abbrev pub IsWayBack : List Node → ℕ → List ℕ → Type 0
IsWayBack nodes i [] = (node : Node) × (slice_get nodes i ≡ Some node) × (node.parent ≡ None)
IsWayBack nodes i (step ∷ steps) = (node : Node) × (j : ℕ) × (slice_get nodes i ≡ Some node) × (node.parent ≡ Some (j, step)) × IsWayBack nodes j steps

-- the run that the parents give leads to the state, costs what the node says, and has at most n steps
pub record IsRunOfParents (next : Next StateValue) (first : StateValue) (nodes : List Node) (i : ℕ) (s : StateValue) (cost n : ℕ) : Type 0 where
  pub back : List ℕ
  pub way : IsWayBack nodes i back
  pub ran : run next (reverse back) first ≡ Some (s, cost)
  pub few : length back ≤ n

-- a parent is expanded, and the start alone has none
pub record HasParents (nodes : List Node) : Type 0 where
  pub root : (node : Node) → slice_get nodes 0 ≡ Some node → node.parent ≡ None
  pub start : (i : ℕ) (node : Node) → slice_get nodes i ≡ Some node → node.parent ≡ None → i ≡ 0
  pub expanded : (i j step : ℕ) (node parent : Node) → slice_get nodes i ≡ Some node → node.parent ≡ Some (j, step) → slice_get nodes j ≡ Some parent → parent.expanded ≡ true

-- what holds in each outcome of a search of at most n expansions, where the claim is the goal's cost, the spent bound or `NoPlan`
pub record IsRight (next : Next StateValue) (goal : StateValue → Bool) (first : StateValue) (fits : StateValue → Judged → Type 0) (states : List StateValue) (nodes : List Node) (claim : Bound) (n : ℕ) : Type 0 where
  pub one_node : length nodes ≡ length states
  pub distinct : AreDistinct states
  pub start : slice_get states 0 ≡ Some first
  pub frontier : IsFrontier next goal first states nodes claim
  pub judged : (i : ℕ) (s : StateValue) (node : Node) → IsKeptAt states nodes i s node → fits s node.judged
  pub small : (i : ℕ) (node : Node) → slice_get nodes i ≡ Some node → IsSmallBound node.judged.bound
  pub hopeful : (i : ℕ) (node : Node) → slice_get nodes i ≡ Some node → node.expanded ≡ true → node.judged.bound ≢ NoPlan
  pub due : (i : ℕ) (node : Node) → slice_get nodes i ≡ Some node → node.expanded ≡ true → (steps : List ℕ) (cost : ℕ) → IsPlan next goal first steps cost → IsAtMostCost (f_value node) cost
  pub cheapest : (steps : List ℕ) (cost : ℕ) → IsPlan next goal first steps cost → IsAtMostCost claim cost
  pub parents : HasParents nodes
  pub runs : (i : ℕ) (s : StateValue) (node : Node) → IsKeptAt states nodes i s node → IsRunOfParents next first nodes i s node.cost n
  pub few : expanded_count nodes ≤ n

-- a goal state of this path cost
pub record IsGoalAt (goal : StateValue → Bool) (states : List StateValue) (nodes : List Node) (i cost : ℕ) : Type 0 where
  pub s : StateValue
  pub node : Node
  pub kept : IsKeptAt states nodes i s node
  pub at_goal : goal s ≡ true
  pub cost_is : node.cost ≡ cost

-- exactly n states are expanded, and the next one is reachable, isn't a goal and isn't expanded, and has the bound as its path cost and bound
-- together; among those of the same it has the least bound of its own
pub record IsSpent (next : Next StateValue) (goal : StateValue → Bool) (first : StateValue) (states : List StateValue) (nodes : List Node) (n : ℕ) (bound : Bound) : Type 0 where
  pub spent : expanded_count nodes ≡ n
  pub at : ℕ
  pub s : StateValue
  pub node : Node
  pub kept : IsKeptAt states nodes at s node
  pub reached : IsReached next first s
  pub no_goal : goal s ≡ false
  pub fresh : node.expanded ≡ false
  pub due : f_value node ≡ bound
  pub least : (i : ℕ) (other : Node) → slice_get nodes i ≡ Some other → other.expanded ≡ false → f_value other ≡ bound → is_at_most node.judged.bound other.judged.bound ≡ true

-- the goal state has the cost of a cheapest plan
pub record IsCheapestAt (next : Next StateValue) (goal : StateValue → Bool) (first : StateValue) (fits : StateValue → Judged → Type 0) (states : List StateValue) (nodes : List Node) (i n : ℕ) : Type 0 where
  pub cost : ℕ
  pub right : IsRight next goal first fits states nodes (AtLeast cost) n
  pub at : IsGoalAt goal states nodes i cost

-- the claim isn't more than any plan's cost, and the budget of n expansions is spent
pub record IsSpentAt (next : Next StateValue) (goal : StateValue → Bool) (first : StateValue) (fits : StateValue → Judged → Type 0) (states : List StateValue) (nodes : List Node) (bound : Bound) (n : ℕ) : Type 0 where
  pub right : IsRight next goal first fits states nodes bound n
  pub spent : IsSpent next goal first states nodes n bound

-- what a search of at most n expansions answers
abbrev pub IsOutcome : {C : Type 0} → Next StateValue → (StateValue → Bool) → StateValue → (StateValue → Judged → Type 0) → ℕ → Found C → Type 0
IsOutcome next goal first fits n (Goal tree i) = IsCheapestAt next goal first fits tree.states tree.nodes.items i n
IsOutcome next goal first fits n (Empty tree) = IsRight next goal first fits tree.states tree.nodes.items NoPlan n
IsOutcome next goal first fits n (Spent tree bound) = IsSpentAt next goal first fits tree.states tree.nodes.items (AtLeast bound) n
