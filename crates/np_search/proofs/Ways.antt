-- The way back from a state by its parents.
use Rattle.std.proofs.Common.{◌≡◌, ℕ, zero, suc, ◌+◌, ◌<◌, ◌≤◌, Bool, true, false, ◌&&◌, ◌||◌, nat_lt, ◌==◌, cond, List, [], ◌∷◌, Option, Some, None, slice_get, refl, sym, ap, ◌∙◌, true≢false, arith, ◌⊎◌, inl, inr, ⊎_elim, reverse}
use Rattle.std.proofs.lemmas.Bool.{ltb-true, lt-ltb, eqb-true, eq-eqb, or_cases, or_left, or_right, and_parts, and_from, cases_lt}
use Rattle.std.proofs.lemmas.List.{reverse-append}
use Rattle.std.proofs.lemmas.Option.{same_Some}
use Rattle.np_state.specs.StateValues.{StateValue}
use Rattle.np_space.specs.Runs.{Next, run}
use Rattle.np_space.specs.declared.bound.Bound.{Bound}
use Rattle.np_space.specs.declared.judged.Judged.{Judged}
use Rattle.np_search.specs.declared.tree.Node.{Node}
use Rattle.np_search.specs.Opens.{Entries}
use Rattle.np_search.specs.Frontiers.{IsKeptAt, IsFrontier}
use Rattle.np_search.specs.Outcomes.{expanded_count, IsRunOfParents}
use Rattle.np_search.specs.Weights.{sum_at}
use Rattle.np_search.specs.Trees.{IsTree, IsLink}
use Rattle.np_search.proofs.Sums.{bit, sum_at_le, sum_at_lt, sum_at_is}
use Rattle.np_search.proofs.Counts.{once}
use Rattle.np_search.proofs.Runs.{run_longer}

-- an expanded node of less path cost, or of the same found earlier
pub is_before : (ℕ → ℕ) → ℕ → ℕ → ℕ → Node → Bool
is_before found cost time i node = node.expanded && (nat_lt node.cost cost || (node.cost == cost && nat_lt (found i) time))

pub record IsBefore (found : ℕ → ℕ) (cost time i : ℕ) (node : Node) : Type 0 where
  pub expanded : node.expanded ≡ true
  pub earlier : (node.cost < cost) ⊎ ((node.cost ≡ cost) × (found i < time))

before_true : (found : ℕ → ℕ) (cost time i : ℕ) (node : Node) → is_before found cost time i node ≡ true → IsBefore found cost time i node
unfolding is_before
before_true found cost time i node e =
    let parts = and_parts node.expanded (nat_lt node.cost cost || (node.cost == cost && nat_lt (found i) time)) e in
    record { expanded = parts.0; earlier = by (or_cases (nat_lt node.cost cost) (node.cost == cost && nat_lt (found i) time) parts.1) }
  where
    by : (nat_lt node.cost cost ≡ true) ⊎ ((node.cost == cost && nat_lt (found i) time) ≡ true) → (node.cost < cost) ⊎ ((node.cost ≡ cost) × (found i < time))
    by (inl h) = inl (ltb-true node.cost cost h)
    by (inr h) = let both = and_parts (node.cost == cost) (nat_lt (found i) time) h in inr (eqb-true node.cost cost both.0, ltb-true (found i) time both.1)

true_before : (found : ℕ → ℕ) (cost time i : ℕ) (node : Node) → IsBefore found cost time i node → is_before found cost time i node ≡ true
unfolding is_before
true_before found cost time i node b = and_from node.expanded (nat_lt node.cost cost || (node.cost == cost && nat_lt (found i) time)) b.expanded (by b.earlier)
  where
    by : (node.cost < cost) ⊎ ((node.cost ≡ cost) × (found i < time)) → (nat_lt node.cost cost || (node.cost == cost && nat_lt (found i) time)) ≡ true
    by (inl h) = or_left (nat_lt node.cost cost) (node.cost == cost && nat_lt (found i) time) (lt-ltb node.cost cost h)
    by (inr h) = or_right (nat_lt node.cost cost) (node.cost == cost && nat_lt (found i) time) (and_from (node.cost == cost) (nat_lt (found i) time) (eq-eqb node.cost cost h.0) (lt-ltb (found i) time h.1))

-- where one truth follows from another
bit_le : (a b : Bool) → (a ≡ true → b ≡ true) → bit a ≤ bit b
bit_le false b h = omega arith
bit_le true true h = omega arith
bit_le true false h = absurd (true≢false (sym (h refl)))

bit_once : (a b : Bool) → (a ≡ true → b ≡ true) → bit a ≤ cond b 1 0
bit_once false b h = omega arith
bit_once true true h = omega arith
bit_once true false h = absurd (true≢false (sym (h refl)))

bit_lt : (a b : Bool) → a ≡ false → b ≡ true → bit a < bit b
bit_lt true b p q = absurd (true≢false p)
bit_lt false false p q = absurd (true≢false (sym q))
bit_lt false true p q = omega arith

-- how many go before
pub rank : (ℕ → ℕ) → List Node → ℕ → ℕ → ℕ
rank found nodes cost time = sum_at (λ i node. bit (is_before found cost time i node)) nodes

-- at most all expanded ones
pub rank_few : (found : ℕ → ℕ) (nodes : List Node) (cost time : ℕ) → rank found nodes cost time ≤ expanded_count nodes
unfolding rank
rank_few found nodes cost time =
    let all = sum_at_is once nodes in
    let h = sum_at_le (λ i node. bit (is_before found cost time i node)) (λ i node. once node) nodes nodes refl (λ i x y p q. each i x y (same_Some x y (sym p ∙ q))) in
    omega (arith, all, h)
  where
    each : (i : ℕ) (x y : Node) → x ≡ y → bit (is_before found cost time i x) ≤ once y
    each i x y e = bit_once (is_before found cost time i x) y.expanded (λ h. ap (λ (n : Node). n.expanded) (sym e) ∙ (before_true found cost time i x h).expanded)

-- fewer go before an expanded node that goes before
pub rank_less : (found : ℕ → ℕ) (nodes : List Node) (j : ℕ) (parent : Node) (cost time : ℕ) → slice_get nodes j ≡ Some parent → IsBefore found cost time j parent → rank found nodes parent.cost (found j) < rank found nodes cost time
unfolding rank
rank_less found nodes j parent cost time there b =
    sum_at_lt (λ i node. bit (is_before found parent.cost (found j) i node)) (λ i node. bit (is_before found cost time i node)) nodes nodes j parent parent refl
    (λ i x y p q. each i x y (same_Some x y (sym p ∙ q))) there there
    (bit_lt (is_before found parent.cost (found j) j parent) (is_before found cost time j parent) (not_self (is_before found parent.cost (found j) j parent) refl) (true_before found cost time j parent b))
  where
    not_self : (r : Bool) → is_before found parent.cost (found j) j parent ≡ r → r ≡ false
    not_self false e = refl
    not_self true e = ⊎_elim
        (λ (h : parent.cost < parent.cost). absurd (omega (arith, h)))
        (λ (h : (parent.cost ≡ parent.cost) × (found j < found j)). let k = h.1 in absurd (omega (arith, k)))
        (before_true found parent.cost (found j) j parent e).earlier

    wider : (i : ℕ) (x : Node) → (x.cost < parent.cost) ⊎ ((x.cost ≡ parent.cost) × (found i < found j)) → (parent.cost < cost) ⊎ ((parent.cost ≡ cost) × (found j < time)) → (x.cost < cost) ⊎ ((x.cost ≡ cost) × (found i < time))
    wider i x (inl p) (inl q) = inl (omega (arith, p, q))
    wider i x (inl p) (inr q) = let e = q.0 in inl (omega (arith, p, e))
    wider i x (inr p) (inl q) = let e = p.0 in inl (omega (arith, e, q))
    wider i x (inr p) (inr q) = let e = p.0 in let f = q.0 in let s = p.1 in let r = q.1 in inr (omega (arith, e, f), omega (arith, s, r))

    each : (i : ℕ) (x y : Node) → x ≡ y → bit (is_before found parent.cost (found j) i x) ≤ bit (is_before found cost time i y)
    each i x y e = bit_le (is_before found parent.cost (found j) i x) (is_before found cost time i y) (λ h.
        let w = before_true found parent.cost (found j) i x h in
        ap (is_before found cost time i) (sym e) ∙ true_before found cost time i x (record { expanded = w.expanded; earlier = wider i x w.earlier b.earlier }))

module _ (next : Next StateValue) (goal : StateValue → Bool) (first : StateValue) (fits : StateValue → Judged → Type 0) (states : List StateValue) (nodes : List Node) (list : Entries) (but : Option ℕ) (t : IsTree next goal first fits states nodes list but) (claim : Bound) (frontier : IsFrontier next goal first states nodes claim) where
  -- a node costs what its parent and the step cost
  linked_sum : (i : ℕ) (s : StateValue) (node : Node) (j step : ℕ) → IsKeptAt states nodes i s node → (l : IsLink next states nodes t.linked.found i s node j step) → node.cost ≡ l.parent.cost + l.price
  linked_sum i s node j step kept l =
      let after = (frontier.closed j l.before l.parent l.kept l.expanded).after step s l.price l.goes in
      let place : after.at ≡ i = t.distinct.one_number after.at i s after.kept.state kept.state in
      let same : after.node ≡ node = same_Some after.node node (sym after.kept.found ∙ ap (slice_get nodes) place ∙ kept.found) in
      let cost : after.node.cost ≡ node.cost = ap (λ (n : Node). n.cost) same in
      let cheap = after.cheap in
      let sum = l.sum in
      omega (arith, cost, cheap, sum)

  -- the start has no steps
  way_start : (i : ℕ) (s : StateValue) (node : Node) (n : ℕ) → IsKeptAt states nodes i s node → node.parent ≡ None → IsRunOfParents next first nodes i s node.cost n
  way_start i s node n kept none =
      let zero_is : i ≡ 0 = t.linked.only i node kept.found none in
      let root = t.root node (ap (slice_get nodes) (sym zero_is) ∙ kept.found) in
      let state : first ≡ s = same_Some first s (sym t.start ∙ ap (slice_get states) (sym zero_is) ∙ kept.state) in
      record {
        back = [];
        way = (node, kept.found, none);
        ran = ap (λ (x : StateValue). Some (x, 0)) state ∙ ap (λ (c : ℕ). Some (s, c)) (sym root.free);
        few = omega arith;
      }

  -- one more step after the parent's
  way_more : (i : ℕ) (s : StateValue) (node : Node) (j step n : ℕ) → IsKeptAt states nodes i s node → node.parent ≡ Some (j, step) → (l : IsLink next states nodes t.linked.found i s node j step) → IsRunOfParents next first nodes j l.before l.parent.cost n → IsRunOfParents next first nodes i s node.cost (n + 1)
  way_more i s node j step n kept parent l r =
      let sum = linked_sum i s node j step kept l in
      record {
        back = step ∷ r.back;
        way = (node, j, kept.found, parent, r.way);
        ran = ap (λ (path : List ℕ). run next path first) (reverse-append (step ∷ []) r.back) ∙ run_longer next (reverse r.back) first l.before l.parent.cost step s l.price r.ran l.goes ∙ ap (λ (c : ℕ). Some (s, c)) (sym sum);
        few = let h = r.few in omega (arith, h);
      }

  fewer_steps : (i : ℕ) (s : StateValue) (cost m n : ℕ) → m ≤ n → IsRunOfParents next first nodes i s cost m → IsRunOfParents next first nodes i s cost n
  fewer_steps i s cost m n h r = record { back = r.back; way = r.way; ran = r.ran; few = let k = r.few in omega (arith, k, h) }

  -- a parent goes before
  linked_less : (i : ℕ) (s : StateValue) (node : Node) (j step : ℕ) → (l : IsLink next states nodes t.linked.found i s node j step) → rank t.linked.found nodes l.parent.cost (t.linked.found j) < rank t.linked.found nodes node.cost (t.linked.found i)
  linked_less i s node j step l = rank_less t.linked.found nodes j l.parent node.cost (t.linked.found i) l.kept.found (record { expanded = l.expanded; earlier = by (cases_lt l.parent.cost node.cost) })
    where
      by : (l.parent.cost < node.cost) ⊎ (node.cost ≤ l.parent.cost) → (l.parent.cost < node.cost) ⊎ ((l.parent.cost ≡ node.cost) × (t.linked.found j < t.linked.found i))
      by (inl h) = inl h
      by (inr h) = let sum = l.sum in let same : l.parent.cost ≡ node.cost = omega (arith, sum, h) in inr (same, l.later same)

  -- by how many nodes go before
  way_by : (m i : ℕ) (s : StateValue) (node : Node) → IsKeptAt states nodes i s node → rank t.linked.found nodes node.cost (t.linked.found i) ≤ m → IsRunOfParents next first nodes i s node.cost m
  way_by zero i s node kept few = by node.parent refl
    where
      by : (p : Option (ℕ × ℕ)) → node.parent ≡ p → IsRunOfParents next first nodes i s node.cost 0
      by None e = way_start i s node 0 kept e
      by (Some p) e =
          let l = t.linked.link i p.0 p.1 s node kept e in
          let less = linked_less i s node p.0 p.1 l in
          absurd (omega (arith, less, few))
  way_by (suc m) i s node kept few = by node.parent refl (λ j before parent k h. way_by m j before parent k h)
    where
      by : (p : Option (ℕ × ℕ)) → node.parent ≡ p → ((j : ℕ) (before : StateValue) (parent : Node) → IsKeptAt states nodes j before parent → rank t.linked.found nodes parent.cost (t.linked.found j) ≤ m → IsRunOfParents next first nodes j before parent.cost m) → IsRunOfParents next first nodes i s node.cost (suc m)
      by None e more = way_start i s node (suc m) kept e
      by (Some p) e more =
          let l = t.linked.link i p.0 p.1 s node kept e in
          let less = linked_less i s node p.0 p.1 l in
          fewer_steps i s node.cost (m + 1) (suc m) (omega arith) (way_more i s node p.0 p.1 m kept e l (more p.0 l.before l.parent l.kept (omega (arith, less, few))))

  pub run_of_parents : (i : ℕ) (s : StateValue) (node : Node) → IsKeptAt states nodes i s node → IsRunOfParents next first nodes i s node.cost (expanded_count nodes)
  run_of_parents i s node kept = way_by (expanded_count nodes) i s node kept (rank_few t.linked.found nodes node.cost (t.linked.found i))
