-- What holds of the states that a search reached, between its steps.
use Rattle.std.specs.Prelude.{◌≡◌, ◌≢◌, ℕ, ◌+◌, ◌*◌, ◌^◌, ◌<◌, ◌≤◌, Bool, true, false, List, Option, None, Some, length, slice_get}
use Rattle.np_state.specs.StateValues.{StateValue}
use Rattle.np_state.specs.Interning.{AreDistinct}
use Rattle.np_space.specs.Runs.{Next, IsPlan, IsReachedWithin}
use Rattle.np_space.specs.Bounds.{IsBoundAt, IsAtMostCost, IsSmallBound, is_at_most}
use Rattle.np_space.specs.declared.bound.Bound.TheVariants.{AtLeast, NoPlan}
use Rattle.np_space.specs.declared.judged.Judged.{Judged}
use Rattle.np_search.specs.declared.open_list.Key.{Key}
use Rattle.np_search.specs.declared.tree.Node.{Node}
use Rattle.np_search.specs.Opens.{Entries}
use Rattle.np_search.specs.Keys.{key_of}
use Rattle.np_search.specs.Frontiers.{IsKeptAt, IsKeptWithin, f_value}
use Rattle.np_search.specs.Outcomes.{expanded_count}
use Rattle.np_search.specs.Weights.{again_key}

-- some run of at most n steps leads to the state, and its steps are fewer than n if the state is expanded; the path cost is small
pub record IsNear (next : Next StateValue) (first s : StateValue) (node : Node) (n : ℕ) : Type 0 where
  pub depth : ℕ
  pub reached : IsReachedWithin next first depth s
  pub cheap : node.cost ≤ depth * 2 ^ 32
  pub few : depth ≤ n
  pub fewer : node.expanded ≡ true → depth < n

-- what holds of a state and its node by themselves, where n states are expanded
pub record IsSound (next : Next StateValue) (goal : StateValue → Bool) (first : StateValue) (fits : StateValue → Judged → Type 0) (s : StateValue) (node : Node) (n : ℕ) : Type 0 where
  pub near : IsNear next first s node n
  pub bound : IsBoundAt next goal s node.judged.bound
  pub small : IsSmallBound node.judged.bound
  pub judged : fits s node.judged
  pub hopeful : node.expanded ≡ true → node.judged.bound ≢ NoPlan
  pub due : node.expanded ≡ true → (steps : List ℕ) (cost : ℕ) → IsPlan next goal first steps cost → IsAtMostCost (f_value node) cost

-- an expanded state isn't a goal, and each state after it is kept at no more than an earlier path cost and the step's; unless it
-- waits, the path cost didn't fall since then
pub record IsDone (next : Next StateValue) (goal : StateValue → Bool) (states : List StateValue) (nodes : List Node) (list : Entries) (i : ℕ) (s : StateValue) (node : Node) : Type 0 where
  pub no_goal : goal s ≡ false
  pub earlier : ℕ
  pub after : (step : ℕ) (t : StateValue) (cost : ℕ) → next s step ≡ Some (t, cost) → IsKeptWithin states nodes t (earlier + cost)
  pub present : list i (again_key node.cost) ≡ false → earlier ≤ node.cost

-- the step leads from the parent at no more cost; of equal costs the parent's was found earlier
pub record IsLink (next : Next StateValue) (states : List StateValue) (nodes : List Node) (found : ℕ → ℕ) (i : ℕ) (s : StateValue) (node : Node) (j step : ℕ) : Type 0 where
  pub before : StateValue
  pub parent : Node
  pub kept : IsKeptAt states nodes j before parent
  pub price : ℕ
  pub goes : next before step ≡ Some (s, price)
  pub sum : parent.cost + price ≤ node.cost
  pub expanded : parent.expanded ≡ true
  pub later : parent.cost ≡ node.cost → found j < found i

-- each parent leads to its node, and there is a time at which each path cost was found
pub record AreLinked (next : Next StateValue) (states : List StateValue) (nodes : List Node) : Type 0 where
  pub found : ℕ → ℕ
  pub now : ℕ
  pub past : (i : ℕ) → found i < now
  pub link : (i j step : ℕ) (s : StateValue) (node : Node) → IsKeptAt states nodes i s node → node.parent ≡ Some (j, step) → IsLink next states nodes found i s node j step
  pub only : (i : ℕ) (node : Node) → slice_get nodes i ≡ Some node → node.parent ≡ None → i ≡ 0

-- an entry is a node with its key, and each node that isn't expanded is in the list, but for one
pub record AreListed (nodes : List Node) (list : Entries) (but : Option ℕ) : Type 0 where
  pub only : (i : ℕ) (key : Key) → list i key ≡ true → (node : Node) × (slice_get nodes i ≡ Some node) × (key_of node ≡ Some key)
  pub there : (i : ℕ) (node : Node) (key : Key) → slice_get nodes i ≡ Some node → but ≢ Some i → node.expanded ≡ false → key_of node ≡ Some key → list i key ≡ true

-- the start's node
pub record IsRoot (node : Node) : Type 0 where
  pub no_parent : node.parent ≡ None
  pub free : node.cost ≡ 0

-- what holds between two steps of a search, but that one node was just taken from the list
pub record IsTree (next : Next StateValue) (goal : StateValue → Bool) (first : StateValue) (fits : StateValue → Judged → Type 0) (states : List StateValue) (nodes : List Node) (list : Entries) (but : Option ℕ) : Type 0 where
  pub one_node : length nodes ≡ length states
  pub start : slice_get states 0 ≡ Some first
  pub distinct : AreDistinct states
  pub n : ℕ
  pub counted : expanded_count nodes ≡ n
  pub root : (node : Node) → slice_get nodes 0 ≡ Some node → IsRoot node
  pub sound : (i : ℕ) (s : StateValue) (node : Node) → IsKeptAt states nodes i s node → IsSound next goal first fits s node n
  pub done : (i : ℕ) (s : StateValue) (node : Node) → IsKeptAt states nodes i s node → but ≢ Some i → node.expanded ≡ true → IsDone next goal states nodes list i s node
  pub linked : AreLinked next states nodes
  pub listed : AreListed nodes list but

-- an expanded node that isn't in the list, the first of whose steps are taken
pub record IsUnderWay (next : Next StateValue) (goal : StateValue → Bool) (states : List StateValue) (nodes : List Node) (list : Entries) (at steps : ℕ) : Type 0 where
  pub s : StateValue
  pub node : Node
  pub kept : IsKeptAt states nodes at s node
  pub expanded : node.expanded ≡ true
  pub no_goal : goal s ≡ false
  pub absent : (key : Key) → list at key ≡ false
  pub taken : (step : ℕ) (t : StateValue) (cost : ℕ) → step < steps → next s step ≡ Some (t, cost) → IsKeptWithin states nodes t (node.cost + cost)

-- what the steps of a state lead to is kept
pub record IsKnownAfter (next : Next StateValue) (states : List StateValue) (at : ℕ) : Type 0 where
  pub known : (s : StateValue) (step : ℕ) (t : StateValue) (cost : ℕ) → slice_get states at ≡ Some s → next s step ≡ Some (t, cost) → (i : ℕ) × (slice_get states i ≡ Some t)

-- a state that isn't expanded and isn't in the list, of this path cost and bound together; among those of the same it has the least bound
pub record IsOpenAt (states : List StateValue) (nodes : List Node) (list : Entries) (at f : ℕ) : Type 0 where
  pub s : StateValue
  pub node : Node
  pub kept : IsKeptAt states nodes at s node
  pub fresh : node.expanded ≡ false
  pub absent : (key : Key) → list at key ≡ false
  pub due : f_value node ≡ AtLeast f
  pub least : (i : ℕ) (other : Node) → slice_get nodes i ≡ Some other → other.expanded ≡ false → f_value other ≡ AtLeast f → is_at_most node.judged.bound other.judged.bound ≡ true
