-- A state that is expanded for the first time.
use Rattle.std.proofs.Common.{◌≡◌, ◌≢◌, ℕ, ◌+◌, ◌≤◌, Bool, true, List, Some, None, set, slice_get, refl, sym, ap, subst, ◌∙◌, true≢false, arith, ◌⊎◌, inl, inr, ⊎_elim}
use Rattle.std.proofs.lemmas.List.{length-set}
use Rattle.std.proofs.lemmas.Option.{same_Some}
use Rattle.np_state.specs.StateValues.{StateValue}
use Rattle.np_space.specs.Runs.{Next}
use Rattle.np_space.specs.Bounds.{IsAtMostCost}
use Rattle.np_space.specs.declared.bound.Bound.{Bound}
use Rattle.np_space.specs.declared.bound.Bound.TheVariants.{AtLeast}
use Rattle.np_space.specs.declared.judged.Judged.{Judged}
use Rattle.np_search.specs.declared.tree.Node.{Node}
use Rattle.np_search.specs.Opens.{Entries}
use Rattle.np_search.specs.Frontiers.{IsKeptAt, IsKeptWithin}
use Rattle.np_search.specs.Outcomes.{expanded_count}
use Rattle.np_search.specs.Trees.{IsTree, IsNear, IsSound, IsDone, IsLink, AreListed, IsRoot, IsUnderWay}
use Rattle.np_search.specs.Choices.{IsOpenNext}
use Rattle.np_search.proofs.BoundSums.{no_sum}
use Rattle.np_search.proofs.Optimal.{no_cheaper}
use Rattle.np_search.proofs.Places.{get_set, get_beside_set}
use Rattle.np_search.proofs.Kept.{kept_set, keep_set, keep_written, within_set}
use Rattle.np_search.proofs.Counts.{count_more}
use Rattle.np_search.proofs.Steps.{done_along}

-- the node, expanded
abbrev pub marked : Node → Node
marked node = record node { expanded = true }

module _ (next : Next StateValue) (goal : StateValue → Bool) (first : StateValue) (fits : StateValue → Judged → Type 0) (states : List StateValue) (nodes : List Node) (list : Entries) (at f : ℕ) (o : IsOpenNext next goal first fits states nodes list at f) where
  abbrev t : IsTree next goal first fits states nodes list (Some at)
  t = o.tree

  abbrev old : Node
  old = o.here.node

  abbrev node : Node
  node = marked old

  abbrev more : List Node
  more = set nodes at node

  there : slice_get nodes at ≡ Some old
  there = o.here.kept.found

  apart : (i : ℕ) → Some at ≢ Some i → i ≢ at
  apart i other e = other (ap Some (sym e))

  keep : (i : ℕ) (s : StateValue) (n : Node) → i ≢ at → IsKeptAt states nodes i s n → IsKeptAt states more i s n
  keep = keep_set states nodes at old node there

  within : (s : StateValue) (m : ℕ) → IsKeptWithin states nodes s m → IsKeptWithin states more s m
  within = within_set states nodes at old node there (let h : old.cost ≤ old.cost = omega arith in h)

  later : (s : StateValue) (n : Node) → IsNear next first s n t.n → IsNear next first s n (t.n + 1)
  later s n h = record { depth = h.depth; reached = h.reached; cheap = h.cheap; few = omega (arith, h.few); fewer = λ e. let k = h.fewer e in omega (arith, k) }

  sound_old : (s : StateValue) (n : Node) → IsSound next goal first fits s n t.n → IsSound next goal first fits s n (t.n + 1)
  sound_old s n h = record { near = later s n h.near; bound = h.bound; small = h.small; judged = h.judged; hopeful = h.hopeful; due = h.due }

  -- no plan costs less than its path cost and bound together
  sound_new : (s : StateValue) → IsSound next goal first fits s old t.n → IsSound next goal first fits s node (t.n + 1)
  sound_new s h = record {
    near = record { depth = h.near.depth; reached = h.near.reached; cheap = h.near.cheap; few = omega (arith, h.near.few); fewer = λ e. omega (arith, h.near.few) };
    bound = h.bound;
    small = h.small;
    judged = h.judged;
    hopeful = λ e is. no_sum old.cost f old.judged.bound o.here.due is;
    due = λ e steps cost plan. subst (λ (b : Bound). IsAtMostCost b cost) (sym o.here.due) (no_cheaper next goal first states nodes (AtLeast f) o.frontier steps cost plan);
  }

  sound : (i : ℕ) (s : StateValue) (n : Node) → ((i ≡ at) × (node ≡ n) × IsKeptAt states nodes i s old) ⊎ ((i ≢ at) × IsKeptAt states nodes i s n) → IsSound next goal first fits s n (t.n + 1)
  sound i s n (inl h) = subst (λ (x : Node). IsSound next goal first fits s x (t.n + 1)) h.1 (sound_new s (t.sound i s old h.2))
  sound i s n (inr h) = sound_old s n (t.sound i s n h.1)

  done : (i : ℕ) (s : StateValue) (n : Node) → Some at ≢ Some i → n.expanded ≡ true → ((i ≡ at) × (node ≡ n) × IsKeptAt states nodes i s old) ⊎ ((i ≢ at) × IsKeptAt states nodes i s n) → IsDone next goal states more list i s n
  done i s n other expanded (inl h) = absurd (other (ap Some (sym h.0)))
  done i s n other expanded (inr h) = done_along next goal states states nodes more list list within i s n refl (t.done i s n h.1 other expanded)

  -- a parent is expanded already
  link_along : (i j k : ℕ) (s : StateValue) (m n : Node) → m.cost ≡ n.cost → IsLink next states nodes t.linked.found i s m j k → IsLink next states more t.linked.found i s n j k
  link_along i j k s m n same l =
      let other : j ≢ at = λ (e : j ≡ at).
      let one : old ≡ l.parent = same_Some old l.parent (sym there ∙ ap (slice_get nodes) (sym e) ∙ l.kept.found) in
      true≢false (sym l.expanded ∙ ap (λ (x : Node). x.expanded) (sym one) ∙ o.here.fresh)
      in
      record {
        before = l.before;
        parent = l.parent;
        kept = keep j l.before l.parent other l.kept;
        price = l.price;
        goes = l.goes;
        sum = let h = l.sum in omega (arith, same, h);
        expanded = l.expanded;
        later = λ e. l.later (e ∙ sym same);
      }

  link : (i j k : ℕ) (s : StateValue) (n : Node) → n.parent ≡ Some (j, k) → ((i ≡ at) × (node ≡ n) × IsKeptAt states nodes i s old) ⊎ ((i ≢ at) × IsKeptAt states nodes i s n) → IsLink next states more t.linked.found i s n j k
  link i j k s n e (inl h) = link_along i j k s old n (ap (λ (x : Node). x.cost) h.1) (t.linked.link i j k s old h.2 (ap (λ (x : Node). x.parent) h.1 ∙ e))
  link i j k s n e (inr h) = link_along i j k s n n refl (t.linked.link i j k s n h.1 e)

  only : (i : ℕ) (n : Node) → n.parent ≡ None → ((i ≡ at) × (node ≡ n)) ⊎ ((i ≢ at) × (slice_get nodes i ≡ Some n)) → i ≡ 0
  only i n e (inl h) = t.linked.only i old (ap (slice_get nodes) h.0 ∙ there) (ap (λ (x : Node). x.parent) h.1 ∙ e)
  only i n e (inr h) = t.linked.only i n h.1 e

  root : (n : Node) → ((0 ≡ at) × (node ≡ n)) ⊎ ((0 ≢ at) × (slice_get nodes 0 ≡ Some n)) → IsRoot n
  root n (inl h) =
      let r = t.root old (ap (slice_get nodes) h.0 ∙ there) in
      record { no_parent = ap (λ (x : Node). x.parent) (sym h.1) ∙ r.no_parent; free = ap (λ (x : Node). x.cost) (sym h.1) ∙ r.free }
  root n (inr h) = t.root n h.1

  listed : AreListed more list (Some at)
  listed = record {
    only = λ i key e.
        let h = t.listed.only i key e in
        let ne : i ≢ at = λ (same : i ≡ at). true≢false (sym e ∙ ap (λ (j : ℕ). list j key) same ∙ o.here.absent key) in
        (h.0, get_beside_set nodes at node i h.0 ne h.1, h.2);
    there = λ i n key found other fresh keyed.
        ⊎_elim
        (λ (h : (i ≡ at) × (node ≡ n)). absurd (other (ap Some (sym h.0))))
        (λ (h : (i ≢ at) × (slice_get nodes i ≡ Some n)). t.listed.there i n key h.1 other fresh keyed)
        (get_set nodes at node i n found);
  }

  pub tree_opened : IsTree next goal first fits states (set nodes at (marked o.here.node)) list (Some at)
  tree_opened = record {
    one_node = length-set nodes at node ∙ t.one_node;
    start = t.start;
    distinct = t.distinct;
    n = t.n + 1;
    counted = count_more nodes at old node there o.here.fresh refl ∙ ap (λ (x : ℕ). x + 1) t.counted;
    root = λ n found. root n (get_set nodes at node 0 n found);
    sound = λ i s n kept. sound i s n (kept_set states nodes at old node there i s n kept);
    done = λ i s n kept other expanded. done i s n other expanded (kept_set states nodes at old node there i s n kept);
    linked = record {
      found = t.linked.found;
      now = t.linked.now;
      past = t.linked.past;
      link = λ i j k s n kept e. link i j k s n e (kept_set states nodes at old node there i s n kept);
      only = λ i n found e. only i n e (get_set nodes at node i n found);
    };
    listed = listed;
  }

  pub opened_under_way : IsUnderWay next goal states (set nodes at (marked o.here.node)) list at 0
  opened_under_way = record {
    s = o.here.s;
    node = node;
    kept = keep_written states nodes at old node there at o.here.s refl o.here.kept.state;
    expanded = refl;
    no_goal = o.no_goal;
    absent = o.here.absent;
    taken = λ k x cost lt goes. absurd (omega arith);
  }

  pub opened_count : expanded_count (set nodes at (marked o.here.node)) ≡ expanded_count nodes + 1
  opened_count = count_more nodes at old node there o.here.fresh refl

  -- what holds of the nodes where it is marked
  pub record IsOpened (new : List Node) : Type 0 where
    pub tree : IsTree next goal first fits states new list (Some at)
    pub under_way : IsUnderWay next goal states new list at 0
    pub count : expanded_count new ≡ expanded_count nodes + 1

  pub opened : (read : Node) → read ≡ o.here.node → IsOpened (set nodes at (marked read))
  opened read same = subst (λ (n : Node). IsOpened (set nodes at (marked n))) (sym same) (record { tree = tree_opened; under_way = opened_under_way; count = opened_count })
