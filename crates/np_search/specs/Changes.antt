-- What single steps of a search change.
use Rattle.std.specs.Prelude.{◌≡◌, ℕ, ◌<◌, ◌≤◌, ◌^◌, Bool, false, List, [], ◌∷◌, ◌++◌, Option, Some, length, slice_get, slice_set}
use Rattle.np_state.specs.StateValues.{StateValue}
use Rattle.np_space.specs.Runs.{Next}
use Rattle.np_space.specs.Bounds.{IsBoundAt, IsSmallBound}
use Rattle.np_space.specs.declared.judged.Judged.{Judged}
use Rattle.np_search.specs.declared.tree.Node.{Node}
use Rattle.np_search.specs.Opens.{Entries}
use Rattle.np_search.specs.Keys.{key_of, IsSameList, PutsAny, TakesAny}

-- a node whose key has numbers of 64 bits
pub record IsNarrow (node : Node) : Type 0 where
  pub small : IsSmallBound node.judged.bound
  pub cost : node.cost ≤ 2 ^ 57

-- a place has such a node
pub record IsNarrowAt (nodes : List Node) (at : ℕ) : Type 0 where
  pub node : Node
  pub found : slice_get nodes at ≡ Some node
  pub narrow : IsNarrow node

-- the node by another way
abbrev pub moved : Node → ℕ × ℕ → ℕ → Node
moved node parent cost = record node { parent = Some parent; cost = cost }

-- the node has another parent, and its place in the list follows
pub record IsMoved (old new : List Node) (before after : Entries) (at : ℕ) (node : Node) (parent : ℕ × ℕ) (cost : ℕ) : Type 0 where
  pub changed : new ≡ slice_set old at (moved node parent cost)
  pub between : Entries
  pub taken : TakesAny before between at (key_of node)
  pub put : PutsAny between after at (key_of (moved node parent cost))

-- nothing changes
pub record IsUnmoved (old new : List Node) (before after : Entries) : Type 0 where
  pub same : new ≡ old
  pub same_list : IsSameList before after

-- the way by this parent is taken where it costs less
pub record IsLowered (old new : List Node) (before after : Entries) (at : ℕ) (parent : ℕ × ℕ) (cost : ℕ) : Type 0 where
  pub node : Node
  pub found : slice_get old at ≡ Some node
  pub dear : node.cost ≤ cost → IsUnmoved old new before after
  pub cheap : cost < node.cost → IsMoved old new before after at node parent cost

-- the node goes last, and into the list
pub record IsPushed (old new : List Node) (before after : Entries) (node : Node) : Type 0 where
  pub last : new ≡ old ++ node ∷ []
  pub put : PutsAny before after (length old) (key_of node)

-- a node that isn't expanded, with what is known of its state's bound
pub record IsFound (next : Next StateValue) (goal : StateValue → Bool) (fits : StateValue → Judged → Type 0) (s : StateValue) (parent : Option (ℕ × ℕ)) (cost : ℕ) (node : Node) : Type 0 where
  pub parent_is : node.parent ≡ parent
  pub cost_is : node.cost ≡ cost
  pub fresh : node.expanded ≡ false
  pub bound : IsBoundAt next goal s node.judged.bound
  pub small : IsSmallBound node.judged.bound
  pub judged : fits s node.judged
