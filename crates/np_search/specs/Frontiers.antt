-- What a search has reached, as lists: the states, and for each the node of the same number.
use Rattle.std.specs.Prelude.{◌≡◌, ℕ, ◌+◌, ◌≤◌, Bool, true, false, List, Some, slice_get}
use Rattle.np_state.specs.StateValues.{StateValue}
use Rattle.np_space.specs.Runs.{Next}
use Rattle.np_space.specs.Bounds.{IsBoundAt, is_at_most, sum_of}
use Rattle.np_space.specs.declared.bound.Bound.{Bound}
use Rattle.np_space.specs.declared.bound.Bound.TheVariants.{AtLeast}
use Rattle.np_search.specs.declared.tree.Node.{Node}

-- the state of a number, and its node
pub record IsKeptAt (states : List StateValue) (nodes : List Node) (i : ℕ) (s : StateValue) (node : Node) : Type 0 where
  pub state : slice_get states i ≡ Some s
  pub found : slice_get nodes i ≡ Some node

-- a state is kept at this path cost or less
pub record IsKeptWithin (states : List StateValue) (nodes : List Node) (s : StateValue) (cost : ℕ) : Type 0 where
  pub at : ℕ
  pub node : Node
  pub kept : IsKeptAt states nodes at s node
  pub cheap : node.cost ≤ cost

-- an expanded state isn't a goal, and each state after it is kept at no more than its path cost and the step's cost
pub record IsClosed (next : Next StateValue) (goal : StateValue → Bool) (states : List StateValue) (nodes : List Node) (s : StateValue) (node : Node) : Type 0 where
  pub no_goal : goal s ≡ false
  pub after : (step : ℕ) (t : StateValue) (cost : ℕ) → next s step ≡ Some (t, cost) → IsKeptWithin states nodes t (node.cost + cost)

-- the path cost and the bound together
abbrev pub f_value : Node → Bound
f_value node = sum_of (AtLeast node.cost) node.judged.bound

-- the start is kept; expanded states are closed; the others have bounds, and none of them leads to a goal for less than the claim
pub record IsFrontier (next : Next StateValue) (goal : StateValue → Bool) (first : StateValue) (states : List StateValue) (nodes : List Node) (claim : Bound) : Type 0 where
  pub start : IsKeptWithin states nodes first 0
  pub closed : (i : ℕ) (s : StateValue) (node : Node) → IsKeptAt states nodes i s node → node.expanded ≡ true → IsClosed next goal states nodes s node
  pub bounds : (i : ℕ) (s : StateValue) (node : Node) → IsKeptAt states nodes i s node → IsBoundAt next goal s node.judged.bound
  pub claimed : (i : ℕ) (s : StateValue) (node : Node) → IsKeptAt states nodes i s node → node.expanded ≡ false → is_at_most claim (f_value node) ≡ true
