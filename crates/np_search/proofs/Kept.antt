-- Kept states after a push and a write.
use Rattle.std.proofs.Common.{◌≡◌, ◌≢◌, ℕ, ◌<◌, ◌≤◌, List, [], ◌∷◌, ◌++◌, Some, length, set, slice_get, sym, ap, ◌∙◌, arith, ◌⊎◌, inl, inr}
use Rattle.std.proofs.lemmas.Bool.{cases_eq}
use Rattle.std.proofs.lemmas.Option.{same_Some, slice_get_within}
use Rattle.np_state.specs.StateValues.{StateValue}
use Rattle.np_search.specs.declared.tree.Node.{Node}
use Rattle.np_search.specs.Frontiers.{IsKeptAt, IsKeptWithin}
use Rattle.np_search.proofs.Places.{get_push, get_before_push, get_at_push, get_set, get_at_set, get_beside_set}

module _ (states : List StateValue) (nodes : List Node) where
  pub within_weaker : (s : StateValue) (m n : ℕ) → m ≤ n → IsKeptWithin states nodes s m → IsKeptWithin states nodes s n
  within_weaker s m n h k = record { at = k.at; node = k.node; kept = k.kept; cheap = omega (arith, k.cheap) }

  module _ (one_node : length nodes ≡ length states) where
    pub at_node : (i : ℕ) (s : StateValue) (n : Node) → IsKeptAt states nodes i s n → i < length nodes
    at_node i s n k = slice_get_within nodes i n k.found

    module _ (t : StateValue) (node : Node) where
      pub kept_push : (i : ℕ) (s : StateValue) (n : Node) → IsKeptAt (states ++ t ∷ []) (nodes ++ node ∷ []) i s n → ((i ≡ length nodes) × (t ≡ s) × (node ≡ n)) ⊎ IsKeptAt states nodes i s n
      kept_push i s n k = by (get_push states t i s k.state) (get_push nodes node i n k.found)
        where
          by : ((i ≡ length states) × (t ≡ s)) ⊎ (slice_get states i ≡ Some s) → ((i ≡ length nodes) × (node ≡ n)) ⊎ (slice_get nodes i ≡ Some n) → ((i ≡ length nodes) × (t ≡ s) × (node ≡ n)) ⊎ IsKeptAt states nodes i s n
          by (inl a) (inl b) = inl (b.0, a.1, b.1)
          by (inl a) (inr b) = let h : i < length nodes = slice_get_within nodes i n b in let e : i ≡ length states = a.0 in absurd (omega arith)
          by (inr a) (inl b) = let h : i < length states = slice_get_within states i s a in let e : i ≡ length nodes = b.0 in absurd (omega arith)
          by (inr a) (inr b) = inr (record { state = a; found = b })

      pub keep_push : (i : ℕ) (s : StateValue) (n : Node) → IsKeptAt states nodes i s n → IsKeptAt (states ++ t ∷ []) (nodes ++ node ∷ []) i s n
      keep_push i s n k = record { state = get_before_push states t i s k.state; found = get_before_push nodes node i n k.found }

      pub keep_last : IsKeptAt (states ++ t ∷ []) (nodes ++ node ∷ []) (length nodes) t node
      keep_last = record { state = ap (slice_get (states ++ t ∷ [])) one_node ∙ get_at_push states t; found = get_at_push nodes node }

      pub within_push : (s : StateValue) (m : ℕ) → IsKeptWithin states nodes s m → IsKeptWithin (states ++ t ∷ []) (nodes ++ node ∷ []) s m
      within_push s m k = record { at = k.at; node = k.node; kept = keep_push k.at s k.node k.kept; cheap = k.cheap }

  -- a node is replaced by one of no more cost
  module _ (v : ℕ) (old node : Node) (there : slice_get nodes v ≡ Some old) where
    pub kept_set : (i : ℕ) (s : StateValue) (n : Node) → IsKeptAt states (set nodes v node) i s n → ((i ≡ v) × (node ≡ n) × IsKeptAt states nodes i s old) ⊎ ((i ≢ v) × IsKeptAt states nodes i s n)
    kept_set i s n k = by (get_set nodes v node i n k.found)
      where
        by : ((i ≡ v) × (node ≡ n)) ⊎ ((i ≢ v) × (slice_get nodes i ≡ Some n)) → ((i ≡ v) × (node ≡ n) × IsKeptAt states nodes i s old) ⊎ ((i ≢ v) × IsKeptAt states nodes i s n)
        by (inl h) = inl (h.0, h.1, record { state = k.state; found = ap (slice_get nodes) h.0 ∙ there })
        by (inr h) = inr (h.0, record { state = k.state; found = h.1 })

    pub keep_set : (i : ℕ) (s : StateValue) (n : Node) → i ≢ v → IsKeptAt states nodes i s n → IsKeptAt states (set nodes v node) i s n
    keep_set i s n ne k = record { state = k.state; found = get_beside_set nodes v node i n ne k.found }

    pub keep_written : (i : ℕ) (s : StateValue) → i ≡ v → slice_get states i ≡ Some s → IsKeptAt states (set nodes v node) i s node
    keep_written i s e k = record { state = k; found = ap (slice_get (set nodes v node)) e ∙ get_at_set nodes v node old there }

    pub within_set : node.cost ≤ old.cost → (s : StateValue) (m : ℕ) → IsKeptWithin states nodes s m → IsKeptWithin states (set nodes v node) s m
    within_set cheap s m k = by (cases_eq k.at v)
      where
        by : (k.at ≡ v) ⊎ (k.at ≢ v) → IsKeptWithin states (set nodes v node) s m
        by (inl e) =
            let same : old ≡ k.node = same_Some old k.node (sym there ∙ ap (slice_get nodes) (sym e) ∙ k.kept.found) in
            let less : k.node.cost ≤ m = k.cheap in
            let here : old.cost ≡ k.node.cost = ap (λ (x : Node). x.cost) same in
            record { at = k.at; node = node; kept = keep_written k.at s e k.kept.state; cheap = omega arith }
        by (inr ne) = record { at = k.at; node = k.node; kept = keep_set k.at s k.node ne k.kept; cheap = k.cheap }
