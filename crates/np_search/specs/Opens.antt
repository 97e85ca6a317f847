-- The open list.
use Rattle.std.specs.Prelude.{◌≡◌, ℕ, ◌<◌, ◌≤◌, ◌⊎◌, Bool, true, false}
use Rattle.std.specs.BTreeSet.{contains}
use Rattle.std.specs.Ordering.{ordering_then, nat_cmp}
use Rattle.std.specs.declared.cmp.Ordering.{Ordering}
use Rattle.std.specs.declared.cmp.Reverse.{Reverse}
use Rattle.np_search.specs.declared.open_list.Key.{Key}
use Rattle.np_search.specs.declared.open_list.OpenList.{OpenList}

-- the order of entries: less keys first, and of equal ones the later node
abbrev pub entry_cmp : Key × Reverse ℕ → Key × Reverse ℕ → Ordering
entry_cmp x y = ordering_then (ordering_then (nat_cmp x.0.first y.0.first) (nat_cmp x.0.second y.0.second)) (nat_cmp y.1.0 x.1.0)

-- whether the list has the node with this key
abbrev pub is_in : OpenList → ℕ → Key → Bool
is_in list node key = contains entry_cmp list.entries (key, record { 0 = node })

-- which nodes are in a list, and with which keys
abbrev pub Entries : Type 0
Entries = ℕ → Key → Bool

-- the node is in the list with this key, and nothing else changes
pub record Puts (old new : Entries) (node : ℕ) (key : Key) : Type 0 where
  pub there : new node key ≡ true
  pub others : (n : ℕ) (k : Key) → ¬ ((n ≡ node) × (k ≡ key)) → new n k ≡ old n k

-- the node isn't in the list with this key, and nothing else changes
pub record Takes (old new : Entries) (node : ℕ) (key : Key) : Type 0 where
  pub gone : new node key ≡ false
  pub others : (n : ℕ) (k : Key) → ¬ ((n ≡ node) × (k ≡ key)) → new n k ≡ old n k

-- the first key goes before the second or is the same
abbrev pub IsAtMostKey : Key → Key → Type 0
IsAtMostKey a b = (a.first < b.first) ⊎ ((a.first ≡ b.first) × (a.second ≤ b.second))

-- no key in the list goes before this one
pub record IsLeast (list : Entries) (key : Key) : Type 0 where
  pub least : (n : ℕ) (k : Key) → list n k ≡ true → IsAtMostKey key k
