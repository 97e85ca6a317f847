-- A known state that is reached at less cost.
use Rattle.std.proofs.Common.{◌≡◌, ◌≢◌, ℕ, ◌+◌, ◌<◌, ◌≤◌, Bool, true, false, ◌&&◌, if◌then◌else◌, List, Option, Some, None, set, slice_get, refl, sym, ap, subst, ◌∙◌, true≢false, arith, ◌⊎◌, inl, inr, ⊎_elim}
use Rattle.std.proofs.lemmas.Bool.{cases_eq, cases_lt}
use Rattle.std.proofs.lemmas.List.{length-set}
use Rattle.std.proofs.lemmas.Option.{same_Some, some_pair_parts}
use Rattle.np_state.specs.StateValues.{StateValue}
use Rattle.np_space.specs.Runs.{Next}
use Rattle.np_space.specs.Bounds.{IsAtMostCost, sum_of}
use Rattle.np_space.specs.declared.bound.Bound.{Bound}
use Rattle.np_space.specs.declared.bound.Bound.TheVariants.{AtLeast, NoPlan}
use Rattle.np_space.specs.declared.judged.Judged.{Judged}
use Rattle.np_search.specs.declared.open_list.Key.{Key}
use Rattle.np_search.specs.declared.tree.Node.{Node}
use Rattle.np_search.specs.Opens.{Entries}
use Rattle.np_search.specs.Keys.{key_of, open_key}
use Rattle.np_search.specs.Frontiers.{IsKeptAt, IsKeptWithin}
use Rattle.np_search.specs.Weights.{again_key, weight, weight_at}
use Rattle.np_search.specs.Changes.{moved, IsMoved, IsLowered}
use Rattle.np_search.specs.Trees.{IsTree, IsNear, IsSound, IsDone, IsLink, AreLinked, AreListed, IsRoot, IsUnderWay}
use Rattle.np_search.proofs.Places.{get_set, get_at_set, get_beside_set}
use Rattle.np_search.proofs.Kept.{kept_set, keep_set, keep_written, within_set}
use Rattle.np_search.proofs.Moves.{others_put, others_taken, there_put, only_put, none_taken}
use Rattle.np_search.proofs.Times.{found_now, time_here, time_there, time_past}
use Rattle.np_search.proofs.Counts.{count_same}
use Rattle.np_search.proofs.Sums.{bit_le_one, sum_at_le}
use Rattle.np_search.proofs.Steps.{IsTaken, done_along, taken_more, taken_same}

-- a bound that is due at a path cost is due at less
pub due_below : (b : Bound) (m n cost : ℕ) → m ≤ n → IsAtMostCost (sum_of (AtLeast n) b) cost → IsAtMostCost (sum_of (AtLeast m) b) cost
due_below NoPlan m n cost h d = d
due_below (AtLeast k) m n cost h d = omega arith

-- an expanded node's key
pub key_again : (node : Node) → node.expanded ≡ true → key_of node ≡ Some (again_key node.cost)
key_again node e = ap (λ b. if b then Some (again_key node.cost) else open_key node.cost node.judged.bound) e

module _ (nodes : List Node) (before list : Entries) (v : ℕ) (old : Node) (parent : ℕ × ℕ) (cost : ℕ) (there : slice_get nodes v ≡ Some old) (m : IsMoved nodes (set nodes v (moved old parent cost)) before list v old parent cost) where
  -- other nodes keep their entries
  pub beside : (i : ℕ) (key : Key) → i ≢ v → list i key ≡ before i key
  beside i key ne = others_put m.between list v (key_of (moved old parent cost)) m.put i key ne ∙ others_taken before m.between v (key_of old) m.taken i key ne

  -- the list follows the nodes
  pub listed_moved : (but : Option ℕ) → AreListed nodes before but → AreListed (set nodes v (moved old parent cost)) list but
  listed_moved but l = record {
    only = λ i key e. only i key e (cases_eq i v);
    there = λ i n key at other fresh keyed. put_there i n key other fresh keyed (get_set nodes v (moved old parent cost) i n at);
  }
    where
      had : (key : Key) → before v key ≡ true → key_of old ≡ Some key
      had key e = let h = l.only v key e in ap key_of (same_Some old h.0 (sym there ∙ h.1)) ∙ h.2

      only : (i : ℕ) (key : Key) → list i key ≡ true → (i ≡ v) ⊎ (i ≢ v) → (n : Node) × (slice_get (set nodes v (moved old parent cost)) i ≡ Some n) × (key_of n ≡ Some key)
      only i key e (inl same) = ⊎_elim
          (λ (h : key_of (moved old parent cost) ≡ Some key). (moved old parent cost, ap (slice_get (set nodes v (moved old parent cost))) same ∙ get_at_set nodes v (moved old parent cost) old there, h))
          (λ (h : m.between v key ≡ true). absurd (true≢false (sym h ∙ none_taken before m.between v (key_of old) m.taken had key)))
          (only_put m.between list v (key_of (moved old parent cost)) m.put key (ap (λ (j : ℕ). list j key) (sym same) ∙ e))
      only i key e (inr ne) =
          let h = l.only i key (sym (beside i key ne) ∙ e) in
          (h.0, get_beside_set nodes v (moved old parent cost) i h.0 ne h.1, h.2)

      put_there : (i : ℕ) (n : Node) (key : Key) → but ≢ Some i → n.expanded ≡ false → key_of n ≡ Some key → ((i ≡ v) × (moved old parent cost ≡ n)) ⊎ ((i ≢ v) × (slice_get nodes i ≡ Some n)) → list i key ≡ true
      put_there i n key other fresh keyed (inl h) = ap (λ (j : ℕ). list j key) h.0 ∙ there_put m.between list v (key_of (moved old parent cost)) key (ap key_of h.1 ∙ keyed) m.put
      put_there i n key other fresh keyed (inr h) = beside i key h.0 ∙ l.there i n key h.1 other fresh keyed

  -- less can still fall
  pub weight_moved : cost < old.cost → weight list (set nodes v (moved old parent cost)) ≤ weight before nodes
  weight_moved less = sum_at_le (weight_at list) (weight_at before) (set nodes v (moved old parent cost)) nodes (length-set nodes v (moved old parent cost)) (λ i x y p q. by i x y q (get_set nodes v (moved old parent cost) i x p))
    where
      by : (i : ℕ) (x y : Node) → slice_get nodes i ≡ Some y → ((i ≡ v) × (moved old parent cost ≡ x)) ⊎ ((i ≢ v) × (slice_get nodes i ≡ Some x)) → weight_at list i x ≤ weight_at before i y
      by i x y q (inl h) =
          let same : old ≡ y = same_Some old y (sym there ∙ ap (slice_get nodes) (sym h.0) ∙ q) in
          let a : cost ≡ x.cost = ap (λ (n : Node). n.cost) h.1 in
          let b : old.cost ≡ y.cost = ap (λ (n : Node). n.cost) same in
          let bit = bit_le_one (x.expanded && list i (again_key x.cost)) in
          omega (arith, a, b, bit)
      by i x y q (inr h) =
          let same : x ≡ y = same_Some x y (sym h.1 ∙ q) in
          let e : weight_at list i x ≡ weight_at before i y = ap (λ b. x.cost + x.cost + (if x.expanded && b then 1 else 0)) (beside i (again_key x.cost) h.0) ∙ ap (weight_at before i) same in
          omega (arith, e)

module _ (next : Next StateValue) (goal : StateValue → Bool) (first : StateValue) (fits : StateValue → Judged → Type 0) (states : List StateValue) (nodes : List Node) (before list : Entries) (at step : ℕ) (t : IsTree next goal first fits states nodes before (Some at)) (u : IsUnderWay next goal states nodes before at step) (after : StateValue) (price : ℕ) (goes : next u.s step ≡ Some (after, price)) (v : ℕ) (known : slice_get states v ≡ Some after) (old : Node) (there : slice_get nodes v ≡ Some old) where
  abbrev g : ℕ
  g = u.node.cost + price

  -- it was cheap enough
  dear : old.cost ≤ g → (t : StateValue) (cost : ℕ) → next u.s step ≡ Some (t, cost) → IsKeptWithin states nodes t (u.node.cost + cost)
  dear h s cost e =
      let parts = some_pair_parts after s price cost (sym goes ∙ e) in
      subst (λ (x : StateValue). IsKeptWithin states nodes x (u.node.cost + cost)) parts.0 (record { at = v; node = old; kept = record { state = known; found = there }; cheap = omega (arith, h, parts.1) })

  module _ (less : g < old.cost) (m : IsMoved nodes (set nodes v (moved old (at, step) g)) before list v old (at, step) g) where
    abbrev node : Node
    node = moved old (at, step) g

    abbrev more : List Node
    more = set nodes v node

    not_self : at ≢ v
    not_self e =
        let same : old ≡ u.node = same_Some old u.node (sym there ∙ ap (slice_get nodes) (sym e) ∙ u.kept.found) in
        let h : old.cost ≡ u.node.cost = ap (λ (n : Node). n.cost) same in
        omega (arith, less, h)

    same_list : (i : ℕ) (key : Key) → i ≢ v → list i key ≡ before i key
    same_list = beside nodes before list v old (at, step) g there m

    keep : (i : ℕ) (s : StateValue) (n : Node) → i ≢ v → IsKeptAt states nodes i s n → IsKeptAt states more i s n
    keep = keep_set states nodes v old node there

    within : (s : StateValue) (k : ℕ) → IsKeptWithin states nodes s k → IsKeptWithin states more s k
    within = within_set states nodes v old node there (let h : g ≤ old.cost = omega (arith, less) in h)

    near : (s : StateValue) → IsNear next first s old t.n → IsNear next first s node t.n
    near s h = record { depth = h.depth; reached = h.reached; cheap = omega (arith, less, h.cheap); few = h.few; fewer = h.fewer }

    lowered : (s : StateValue) → IsSound next goal first fits s old t.n → IsSound next goal first fits s node t.n
    lowered s h = record {
      near = near s h.near;
      bound = h.bound;
      small = h.small;
      judged = h.judged;
      hopeful = h.hopeful;
      due = λ e steps cost plan. due_below old.judged.bound g old.cost cost (omega (arith, less)) (h.due e steps cost plan);
    }

    sound : (i : ℕ) (s : StateValue) (n : Node) → ((i ≡ v) × (node ≡ n) × IsKeptAt states nodes i s old) ⊎ ((i ≢ v) × IsKeptAt states nodes i s n) → IsSound next goal first fits s n t.n
    sound i s n (inl h) = subst (λ (x : Node). IsSound next goal first fits s x t.n) h.1 (lowered s (t.sound i s old h.2))
    sound i s n (inr h) = t.sound i s n h.1

    done_lowered : (i : ℕ) (s : StateValue) → i ≡ v → old.expanded ≡ true → IsDone next goal states nodes before i s old → IsDone next goal states more list i s node
    done_lowered i s e expanded d = record {
      no_goal = d.no_goal;
      earlier = d.earlier;
      after = λ k x cost h. within x (d.earlier + cost) (d.after k x cost h);
      present = λ out. absurd (true≢false (sym (there_put m.between list v (key_of node) (again_key g) (key_again node expanded) m.put) ∙ ap (λ (j : ℕ). list j (again_key g)) (sym e) ∙ out));
    }

    done : (i : ℕ) (s : StateValue) (n : Node) → Some at ≢ Some i → n.expanded ≡ true → ((i ≡ v) × (node ≡ n) × IsKeptAt states nodes i s old) ⊎ ((i ≢ v) × IsKeptAt states nodes i s n) → IsDone next goal states more list i s n
    done i s n other expanded (inl h) =
        let was : old.expanded ≡ true = ap (λ (x : Node). x.expanded) h.1 ∙ expanded in
        subst (λ (x : Node). IsDone next goal states more list i s x) h.1 (done_lowered i s h.0 was (t.done i s old h.2 other was))
    done i s n other expanded (inr h) = done_along next goal states states nodes more before list within i s n (same_list i _ h.0) (t.done i s n h.1 other expanded)

    abbrev times : ℕ → ℕ
    times = found_now v t.linked.now t.linked.found

    link_new : (i j k : ℕ) (s : StateValue) (n : Node) → (i ≡ v) × (node ≡ n) × IsKeptAt states nodes i s old → n.parent ≡ Some (j, k) → IsLink next states more times i s n j k
    link_new i j k s n h e =
        let pair : (at ≡ j) × (step ≡ k) = some_pair_parts at j step k (ap (λ (x : Node). x.parent) h.1 ∙ e) in
        let here = time_here v t.linked.now t.linked.found i h.0 in
        let beside = time_there v t.linked.now t.linked.found at not_self in
        let past = t.linked.past at in
        let cost : g ≡ n.cost = ap (λ (x : Node). x.cost) h.1 in
        let state : after ≡ s = same_Some after s (sym known ∙ ap (slice_get states) (sym h.0) ∙ h.2.state) in
        subst (λ (x : ℕ). IsLink next states more times i s n x k) pair.0 (subst (λ (x : ℕ). IsLink next states more times i s n at x) pair.1 (record {
          before = u.s;
          parent = u.node;
          kept = keep at u.s u.node not_self u.kept;
          price = price;
          goes = goes ∙ ap (λ (x : StateValue). Some (x, price)) state;
          sum = omega (arith, cost);
          expanded = u.expanded;
          later = λ same. omega (arith, here, beside, past);
        }))

    link_old : (i j k : ℕ) (s : StateValue) (n : Node) → i ≢ v → IsLink next states nodes t.linked.found i s n j k → (j ≡ v) ⊎ (j ≢ v) → IsLink next states more times i s n j k
    link_old i j k s n ne l (inl same) =
        let was : old ≡ l.parent = same_Some old l.parent (sym there ∙ ap (slice_get nodes) (sym same) ∙ l.kept.found) in
        let cost : old.cost ≡ l.parent.cost = ap (λ (x : Node). x.cost) was in
        record {
          before = l.before;
          parent = node;
          kept = keep_written states nodes v old node there j l.before same l.kept.state;
          price = l.price;
          goes = l.goes;
          sum = omega (arith, less, cost, l.sum);
          expanded = ap (λ (x : Node). x.expanded) was ∙ l.expanded;
          later = λ e. absurd (let h : g ≡ n.cost = e in omega (arith, less, cost, l.sum, h));
        }
    link_old i j k s n ne l (inr other) =
        let child = time_there v t.linked.now t.linked.found i ne in
        let parent = time_there v t.linked.now t.linked.found j other in
        record {
          before = l.before;
          parent = l.parent;
          kept = keep j l.before l.parent other l.kept;
          price = l.price;
          goes = l.goes;
          sum = l.sum;
          expanded = l.expanded;
          later = λ same. let h = l.later same in omega (arith, h, child, parent);
        }

    link : (i j k : ℕ) (s : StateValue) (n : Node) → n.parent ≡ Some (j, k) → ((i ≡ v) × (node ≡ n) × IsKeptAt states nodes i s old) ⊎ ((i ≢ v) × IsKeptAt states nodes i s n) → IsLink next states more times i s n j k
    link i j k s n e (inl h) = link_new i j k s n h e
    link i j k s n e (inr h) = link_old i j k s n h.0 (t.linked.link i j k s n h.1 e) (cases_eq j v)

    only : (i : ℕ) (n : Node) → n.parent ≡ None → ((i ≡ v) × (node ≡ n)) ⊎ ((i ≢ v) × (slice_get nodes i ≡ Some n)) → i ≡ 0
    only i n e (inl h) = absurd (let none : Some (at, step) ≡ None = ap (λ (x : Node). x.parent) h.1 ∙ e in cc)
    only i n e (inr h) = t.linked.only i n h.1 e

    linked : AreLinked next states more
    linked = record {
      found = times;
      now = t.linked.now + 1;
      past = time_past v t.linked.now t.linked.found t.linked.past;
      link = λ i j k s n kept e. link i j k s n e (kept_set states nodes v old node there i s n kept);
      only = λ i n at e. only i n e (get_set nodes v node i n at);
    }

    root : (n : Node) → ((0 ≡ v) × (node ≡ n)) ⊎ ((0 ≢ v) × (slice_get nodes 0 ≡ Some n)) → IsRoot n
    root n (inl h) = absurd (let free = (t.root old (ap (slice_get nodes) h.0 ∙ there)).free in omega (arith, less, free))
    root n (inr h) = t.root n h.1

    tree : IsTree next goal first fits states more list (Some at)
    tree = record {
      one_node = length-set nodes v node ∙ t.one_node;
      start = t.start;
      distinct = t.distinct;
      n = t.n;
      counted = count_same nodes v old node there refl ∙ t.counted;
      root = λ n at. root n (get_set nodes v node 0 n at);
      sound = λ i s n kept. sound i s n (kept_set states nodes v old node there i s n kept);
      done = λ i s n kept other expanded. done i s n other expanded (kept_set states nodes v old node there i s n kept);
      linked = linked;
      listed = listed_moved nodes before list v old (at, step) g there m (Some at) t.listed;
    }

    taken_moved : IsTaken next goal first fits states states nodes (set nodes v (moved old (at, step) g)) before list at step
    taken_moved = record {
      tree = tree;
      under_way = record {
        s = u.s;
        node = u.node;
        kept = keep at u.s u.node not_self u.kept;
        expanded = u.expanded;
        no_goal = u.no_goal;
        absent = λ key. same_list at key not_self ∙ u.absent key;
        taken = taken_more next goal states states nodes more u.s u.node.cost step within u.taken (λ s cost e.
            let parts = some_pair_parts after s price cost (sym goes ∙ e) in
            subst (λ (x : StateValue). IsKeptWithin states more x (u.node.cost + cost)) parts.0 (record { at = v; node = node; kept = keep_written states nodes v old node there v after refl known; cheap = omega (arith, parts.1) }));
      };
      count = count_same nodes v old node there refl;
      less = λ k. record { same = refl; less = weight_moved nodes before list v old (at, step) g there m less };
    }

-- whether it costs less or not
pub taken_known : (next : Next StateValue) (goal : StateValue → Bool) (first : StateValue) (fits : StateValue → Judged → Type 0) (states : List StateValue) (nodes new : List Node) (before list : Entries) (at step : ℕ) → IsTree next goal first fits states nodes before (Some at) → (u : IsUnderWay next goal states nodes before at step) (after : StateValue) (price : ℕ) → next u.s step ≡ Some (after, price) → (v : ℕ) → slice_get states v ≡ Some after → IsLowered nodes new before list v (at, step) (u.node.cost + price) → IsTaken next goal first fits states states nodes new before list at step
taken_known next goal first fits states nodes new before list at step t u after price goes v known l = by (cases_lt (u.node.cost + price) l.node.cost)
  where
    by : (u.node.cost + price < l.node.cost) ⊎ (l.node.cost ≤ u.node.cost + price) → IsTaken next goal first fits states states nodes new before list at step
    by (inl less) =
        let m = l.cheap less in
        subst (λ (ns : List Node). IsTaken next goal first fits states states nodes ns before list at step) (sym m.changed)
        (taken_moved next goal first fits states nodes before list at step t u after price goes v known l.node l.found less (record { changed = refl; between = m.between; taken = m.taken; put = m.put }))
    by (inr dearer) =
        let m = l.dear dearer in
        subst (λ (ns : List Node). IsTaken next goal first fits states states nodes ns before list at step) (sym m.same)
        (taken_same next goal first fits states nodes at step before list t u m.same_list (dear next goal first fits states nodes before list at step t u after price goes v known l.node l.found dearer))
