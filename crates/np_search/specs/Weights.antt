-- How much a search can still do without expanding another state.
use Rattle.std.specs.Prelude.{ℕ, suc, ◌+◌, ◌≤◌, ◌≡◌, ◌&&◌, List, [], ◌∷◌, if◌then◌else◌}
use Rattle.np_state.specs.StateValues.{StateValue}
use Rattle.np_search.specs.declared.open_list.Key.{Key}
use Rattle.np_search.specs.declared.tree.Node.{Node}
use Rattle.np_search.specs.Opens.{Entries}

-- the sum of what the places of a list give
abbrev pub sum_at : {A : Type 0} → (ℕ → A → ℕ) → List A → ℕ
sum_at f [] = 0
sum_at f (x ∷ xs) = f 0 x + sum_at (λ i. f (suc i)) xs

-- the key of an expanded node of this path cost
abbrev pub again_key : ℕ → Key
again_key cost = record { first = 0; second = cost }

-- twice the path cost, and one more where an expanded node waits
abbrev pub weight_at : Entries → ℕ → Node → ℕ
weight_at list i node = node.cost + node.cost + (if node.expanded && list i (again_key node.cost) then 1 else 0)

-- what all nodes give together
abbrev pub weight : Entries → List Node → ℕ
weight list nodes = sum_at (weight_at list) nodes

-- the states stay, and the weight doesn't grow
pub record IsNoMore (old new : List StateValue) (before after : ℕ) : Type 0 where
  pub same : new ≡ old
  pub less : after ≤ before
