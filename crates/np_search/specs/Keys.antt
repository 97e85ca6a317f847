-- The places of nodes in the open list.
use Rattle.std.specs.Prelude.{◌≡◌, ℕ, ◌+◌, Option, None, Some, if◌then◌else◌}
use Rattle.np_space.specs.declared.bound.Bound.{Bound}
use Rattle.np_space.specs.declared.bound.Bound.TheVariants.{AtLeast, NoPlan}
use Rattle.np_search.specs.declared.open_list.Key.{Key}
use Rattle.np_search.specs.declared.tree.Node.{Node}
use Rattle.np_search.specs.Opens.{Entries, Puts, Takes}

-- the key of a state that isn't expanded: by path cost and bound together, and then by the bound
abbrev pub open_key : ℕ → Bound → Option Key
open_key cost NoPlan = None
open_key cost (AtLeast n) = Some (record { first = cost + n + 1; second = n })

-- an expanded state goes before all that aren't
abbrev pub key_of : Node → Option Key
key_of node = if node.expanded then Some (record { first = 0; second = node.cost }) else open_key node.cost node.judged.bound

-- the list has the same nodes with the same keys
pub record IsSameList (old new : Entries) : Type 0 where
  pub same : (n : ℕ) (k : Key) → new n k ≡ old n k

-- the node is put in with the key, where there is one
abbrev pub PutsAny : Entries → Entries → ℕ → Option Key → Type 0
PutsAny old new node None = IsSameList old new
PutsAny old new node (Some key) = Puts old new node key

-- the node is taken out with the key, where there is one
abbrev pub TakesAny : Entries → Entries → ℕ → Option Key → Type 0
TakesAny old new node None = IsSameList old new
TakesAny old new node (Some key) = Takes old new node key
