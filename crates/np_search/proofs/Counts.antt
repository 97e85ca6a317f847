-- How many states are expanded.
use Rattle.std.proofs.Common.{◌≡◌, ℕ, ◌+◌, true, false, cond, List, [], ◌∷◌, ◌++◌, Some, set, get_or, slice_get, sym, ap, ◌∙◌, arith}
use Rattle.std.specs.List.{sum_by}
use Rattle.std.proofs.lemmas.List.Sums.{sum_by-append, sum_by-set}
use Rattle.std.proofs.lemmas.Option.{slice_get_within, get_or_from_slice_get}
use Rattle.np_search.specs.declared.tree.Node.{Node}
use Rattle.np_search.specs.Outcomes.{expanded_count}

-- one where the node is expanded
abbrev pub once : Node → ℕ
once node = cond node.expanded 1 0

pub count_push : (nodes : List Node) (node : Node) → node.expanded ≡ false → expanded_count (nodes ++ node ∷ []) ≡ expanded_count nodes
count_push nodes node fresh =
    let h : sum_by once (nodes ++ node ∷ []) ≡ sum_by once nodes + sum_by once (node ∷ []) = sum_by-append once nodes (node ∷ []) in
    let e : once node ≡ 0 = ap (λ b. cond b 1 0) fresh in
    h ∙ ap (λ n. sum_by once nodes + (0 + n)) e ∙ (omega arith)

pub count_set : (nodes : List Node) (v : ℕ) (old node : Node) → slice_get nodes v ≡ Some old → expanded_count (set nodes v node) + once old ≡ expanded_count nodes + once node
count_set nodes v old node there =
    let h : sum_by once (set nodes v node) + once (get_or nodes v old) ≡ sum_by once nodes + once node = sum_by-set once nodes v node old (slice_get_within nodes v old there) in
    ap (λ (n : Node). sum_by once (set nodes v node) + once n) (sym (get_or_from_slice_get nodes v old old there)) ∙ h

pub count_same : (nodes : List Node) (v : ℕ) (old node : Node) → slice_get nodes v ≡ Some old → node.expanded ≡ old.expanded → expanded_count (set nodes v node) ≡ expanded_count nodes
count_same nodes v old node there same =
    let h = count_set nodes v old node there in
    let e : once node ≡ once old = ap (λ b. cond b 1 0) same in
    omega (arith, h, e)

pub count_more : (nodes : List Node) (v : ℕ) (old node : Node) → slice_get nodes v ≡ Some old → old.expanded ≡ false → node.expanded ≡ true → expanded_count (set nodes v node) ≡ expanded_count nodes + 1
count_more nodes v old node there fresh now =
    let h = count_set nodes v old node there in
    let a : once old ≡ 0 = ap (λ b. cond b 1 0) fresh in
    let b : once node ≡ 1 = ap (λ b. cond b 1 0) now in
    omega (arith, h, a, b)
