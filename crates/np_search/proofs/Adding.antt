-- A state that wasn't reached before.
use Rattle.std.proofs.Common.{◌≡◌, ◌≢◌, ℕ, ◌+◌, ◌^◌, ◌<◌, Bool, true, false, List, [], ◌∷◌, ◌++◌, Option, Some, None, length, slice_get, sym, ap, subst, ◌∙◌, true≢false, arith, ◌⊎◌, inl, inr, ⊎_elim}
use Rattle.std.proofs.lemmas.Bool.{cases_eq}
use Rattle.std.proofs.lemmas.List.{length_push}
use Rattle.std.proofs.lemmas.Option.{some_pair_parts, slice_get_within}
use Rattle.np_state.specs.StateValues.{StateValue}
use Rattle.np_state.specs.Interning.{AreDistinct}
use Rattle.np_space.specs.Runs.{Next}
use Rattle.np_space.specs.declared.judged.Judged.{Judged}
use Rattle.np_search.specs.declared.open_list.Key.{Key}
use Rattle.np_search.specs.declared.tree.Node.{Node}
use Rattle.np_search.specs.Opens.{Entries}
use Rattle.np_search.specs.Keys.{key_of, PutsAny}
use Rattle.np_search.specs.Frontiers.{IsKeptAt, IsKeptWithin}
use Rattle.np_search.specs.Changes.{IsFound}
use Rattle.np_search.specs.Trees.{IsTree, IsNear, IsSound, IsDone, IsLink, AreLinked, AreListed, IsRoot, IsUnderWay}
use Rattle.np_search.proofs.Places.{get_push, get_before_push, get_at_push}
use Rattle.np_search.proofs.Kept.{at_node, kept_push, keep_push, keep_last, within_push}
use Rattle.np_search.proofs.Moves.{others_put, there_put, only_put}
use Rattle.np_search.proofs.Times.{found_now, time_here, time_there, time_past}
use Rattle.np_search.proofs.Counts.{count_push}
use Rattle.np_search.proofs.Runs.{reached_longer}
use Rattle.np_search.proofs.Steps.{IsTaken, done_along, taken_more}

-- no state has two numbers where the new one wasn't there
pub distinct_push : (states : List StateValue) (t : StateValue) → AreDistinct states → ((j : ℕ) → slice_get states j ≢ Some t) → AreDistinct (states ++ t ∷ [])
distinct_push states t d absent = record { one_number = λ i j s p q. by i j s (get_push states t i s p) (get_push states t j s q) }
  where
    by : (i j : ℕ) (s : StateValue) → ((i ≡ length states) × (t ≡ s)) ⊎ (slice_get states i ≡ Some s) → ((j ≡ length states) × (t ≡ s)) ⊎ (slice_get states j ≡ Some s) → i ≡ j
    by i j s (inl a) (inl b) = a.0 ∙ sym b.0
    by i j s (inl a) (inr b) = absurd (absent j (b ∙ ap Some (sym a.1)))
    by i j s (inr a) (inl b) = absurd (absent i (a ∙ ap Some (sym b.1)))
    by i j s (inr a) (inr b) = d.one_number i j s a b

-- a node that goes last and into the list
pub listed_push : (nodes : List Node) (node : Node) (before list : Entries) (but : Option ℕ) → AreListed nodes before but → PutsAny before list (length nodes) (key_of node) → AreListed (nodes ++ node ∷ []) list but
listed_push nodes node before list but l put = record {
  only = λ i key e. only i key e (cases_eq i (length nodes));
  there = λ i n key at other fresh keyed. there i n key other fresh keyed (get_push nodes node i n at);
}
  where
    only : (i : ℕ) (key : Key) → list i key ≡ true → (i ≡ length nodes) ⊎ (i ≢ length nodes) → (n : Node) × (slice_get (nodes ++ node ∷ []) i ≡ Some n) × (key_of n ≡ Some key)
    only i key e (inl last) = ⊎_elim
        (λ (h : key_of node ≡ Some key). (node, ap (slice_get (nodes ++ node ∷ [])) last ∙ get_at_push nodes node, h))
        (λ (h : before (length nodes) key ≡ true).
        let old = l.only (length nodes) key h in
        absurd (let lt : length nodes < length nodes = slice_get_within nodes (length nodes) old.0 old.1 in omega (arith, lt)))
        (only_put before list (length nodes) (key_of node) put key (ap (λ (j : ℕ). list j key) (sym last) ∙ e))
    only i key e (inr ne) =
        let old = l.only i key (sym (others_put before list (length nodes) (key_of node) put i key ne) ∙ e) in
        (old.0, get_before_push nodes node i old.0 old.1, old.2)

    there : (i : ℕ) (n : Node) (key : Key) → but ≢ Some i → n.expanded ≡ false → key_of n ≡ Some key → ((i ≡ length nodes) × (node ≡ n)) ⊎ (slice_get nodes i ≡ Some n) → list i key ≡ true
    there i n key other fresh keyed (inl h) = ap (λ (j : ℕ). list j key) h.0 ∙ there_put before list (length nodes) (key_of node) key (ap key_of h.1 ∙ keyed) put
    there i n key other fresh keyed (inr h) =
        let lt : i < length nodes = slice_get_within nodes i n h in
        others_put before list (length nodes) (key_of node) put i key (λ e. omega (arith, lt, e)) ∙ l.there i n key h other fresh keyed

module _ (next : Next StateValue) (goal : StateValue → Bool) (first : StateValue) (fits : StateValue → Judged → Type 0) (states : List StateValue) (nodes : List Node) (before list : Entries) (at step : ℕ) (t : IsTree next goal first fits states nodes before (Some at)) (u : IsUnderWay next goal states nodes before at step) (after : StateValue) (price : ℕ) (goes : next u.s step ≡ Some (after, price)) (small : price < 2 ^ 32) (node : Node) (f : IsFound next goal fits after (Some (at, step)) (u.node.cost + price) node) (absent : (j : ℕ) → slice_get states j ≢ Some after) (put : PutsAny before list (length nodes) (key_of node)) where
  abbrev more_states : List StateValue
  more_states = states ++ after ∷ []

  abbrev more : List Node
  more = nodes ++ node ∷ []

  under : at < length nodes
  under = at_node states nodes t.one_node at u.s u.node u.kept

  not_last : at ≢ length nodes
  not_last e = let h = under in omega (arith, h, e)

  same_list : (i : ℕ) (key : Key) → i < length nodes → list i key ≡ before i key
  same_list i key lt = others_put before list (length nodes) (key_of node) put i key (λ e. omega (arith, lt, e))

  keep : (i : ℕ) (s : StateValue) (n : Node) → IsKeptAt states nodes i s n → IsKeptAt more_states more i s n
  keep = keep_push states nodes t.one_node after node

  within : (s : StateValue) (m : ℕ) → IsKeptWithin states nodes s m → IsKeptWithin more_states more s m
  within = within_push states nodes t.one_node after node

  near : IsNear next first after node t.n
  near =
      let parent = (t.sound at u.s u.node u.kept).near in
      let fewer : parent.depth < t.n = parent.fewer u.expanded in
      record {
        depth = parent.depth + 1;
        reached = reached_longer next first parent.depth u.s step after price parent.reached goes;
        cheap = omega (arith, parent.cheap, f.cost_is, small);
        few = omega (arith, fewer);
        fewer = λ e. absurd (true≢false (sym e ∙ f.fresh));
      }

  sound_new : IsSound next goal first fits after node t.n
  sound_new = record {
    near = near;
    bound = f.bound;
    small = f.small;
    judged = f.judged;
    hopeful = λ e. absurd (true≢false (sym e ∙ f.fresh));
    due = λ e. absurd (true≢false (sym e ∙ f.fresh));
  }

  sound : (i : ℕ) (s : StateValue) (n : Node) → ((i ≡ length nodes) × (after ≡ s) × (node ≡ n)) ⊎ IsKeptAt states nodes i s n → IsSound next goal first fits s n t.n
  sound i s n (inl h) = subst (λ (x : StateValue). IsSound next goal first fits x n t.n) h.1 (subst (λ (m : Node). IsSound next goal first fits after m t.n) h.2 sound_new)
  sound i s n (inr k) = t.sound i s n k

  done : (i : ℕ) (s : StateValue) (n : Node) → Some at ≢ Some i → n.expanded ≡ true → ((i ≡ length nodes) × (after ≡ s) × (node ≡ n)) ⊎ IsKeptAt states nodes i s n → IsDone next goal more_states more list i s n
  done i s n other expanded (inl h) = absurd (true≢false (sym expanded ∙ ap (λ (m : Node). m.expanded) (sym h.2) ∙ f.fresh))
  done i s n other expanded (inr k) = done_along next goal states more_states nodes more before list within i s n (same_list i _ (at_node states nodes t.one_node i s n k)) (t.done i s n k other expanded)

  abbrev times : ℕ → ℕ
  times = found_now (length nodes) t.linked.now t.linked.found

  link : (i j k : ℕ) (s : StateValue) (n : Node) → n.parent ≡ Some (j, k) → ((i ≡ length nodes) × (after ≡ s) × (node ≡ n)) ⊎ IsKeptAt states nodes i s n → IsLink next more_states more times i s n j k
  link i j k s n e (inl h) =
      let pair : (at ≡ j) × (step ≡ k) = some_pair_parts at j step k (sym f.parent_is ∙ ap (λ (m : Node). m.parent) h.2 ∙ e) in
      let here = time_here (length nodes) t.linked.now t.linked.found i h.0 in
      let there = time_there (length nodes) t.linked.now t.linked.found at not_last in
      let past = t.linked.past at in
      let cost : node.cost ≡ n.cost = ap (λ (m : Node). m.cost) h.2 in
      subst (λ (x : ℕ). IsLink next more_states more times i s n x k) pair.0 (subst (λ (x : ℕ). IsLink next more_states more times i s n at x) pair.1 (record {
        before = u.s;
        parent = u.node;
        kept = keep at u.s u.node u.kept;
        price = price;
        goes = goes ∙ ap (λ (x : StateValue). Some (x, price)) h.1;
        sum = omega (arith, cost, f.cost_is);
        expanded = u.expanded;
        later = λ same. omega (arith, here, there, past);
      }))
  link i j k s n e (inr kept) =
      let old = t.linked.link i j k s n kept e in
      let p = at_node states nodes t.one_node i s n kept in
      let q = at_node states nodes t.one_node j old.before old.parent old.kept in
      let child = time_there (length nodes) t.linked.now t.linked.found i (λ h. omega (arith, p, h)) in
      let parent = time_there (length nodes) t.linked.now t.linked.found j (λ h. omega (arith, q, h)) in
      record {
        before = old.before;
        parent = old.parent;
        kept = keep j old.before old.parent old.kept;
        price = old.price;
        goes = old.goes;
        sum = old.sum;
        expanded = old.expanded;
        later = λ same. let h = old.later same in omega (arith, h, child, parent);
      }

  only : (i : ℕ) (n : Node) → n.parent ≡ None → ((i ≡ length nodes) × (node ≡ n)) ⊎ (slice_get nodes i ≡ Some n) → i ≡ 0
  only i n e (inl h) = absurd (let none : Some (at, step) ≡ None = sym f.parent_is ∙ ap (λ (m : Node). m.parent) h.1 ∙ e in cc)
  only i n e (inr h) = t.linked.only i n h e

  linked : AreLinked next more_states more
  linked = record {
    found = times;
    now = t.linked.now + 1;
    past = time_past (length nodes) t.linked.now t.linked.found t.linked.past;
    link = λ i j k s n kept e. link i j k s n e (kept_push states nodes t.one_node after node i s n kept);
    only = λ i n there e. only i n e (get_push nodes node i n there);
  }

  root : (n : Node) → ((0 ≡ length nodes) × (node ≡ n)) ⊎ (slice_get nodes 0 ≡ Some n) → IsRoot n
  root n (inl h) = absurd (let lt = under in let e = h.0 in omega (arith, lt, e))
  root n (inr h) = t.root n h

  tree : IsTree next goal first fits more_states more list (Some at)
  tree = record {
    one_node = let h = t.one_node in omega (arith, h, length_push nodes node, length_push states after);
    start = get_before_push states after 0 first t.start;
    distinct = distinct_push states after t.distinct absent;
    n = t.n;
    counted = count_push nodes node f.fresh ∙ t.counted;
    root = λ n there. root n (get_push nodes node 0 n there);
    sound = λ i s n kept. sound i s n (kept_push states nodes t.one_node after node i s n kept);
    done = λ i s n kept other expanded. done i s n other expanded (kept_push states nodes t.one_node after node i s n kept);
    linked = linked;
    listed = listed_push nodes node before list (Some at) t.listed put;
  }

  pub taken_new : IsTaken next goal first fits states (states ++ after ∷ []) nodes (nodes ++ node ∷ []) before list at step
  taken_new = record {
    tree = tree;
    under_way = record {
      s = u.s;
      node = u.node;
      kept = keep at u.s u.node u.kept;
      expanded = u.expanded;
      no_goal = u.no_goal;
      absent = λ key. same_list at key under ∙ u.absent key;
      taken = taken_more next goal states more_states nodes more u.s u.node.cost step within u.taken (λ s cost h.
          let parts = some_pair_parts after s price cost (sym goes ∙ h) in
          subst (λ (x : StateValue). IsKeptWithin more_states more x (u.node.cost + cost)) parts.0 (record { at = length nodes; node = node; kept = keep_last states nodes t.one_node after node; cheap = omega (arith, f.cost_is, parts.1) }));
    };
    count = count_push nodes node f.fresh;
    less = λ known. let there = known.known u.s step after price u.kept.state goes in absurd (absent there.0 there.1);
  }
