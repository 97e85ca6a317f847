-- A node that is taken from the list.
use Rattle.std.proofs.Common.{◌≡◌, ◌≢◌, ℕ, ◌+◌, ◌-◌, ◌<◌, ◌≤◌, Bool, true, false, ◌&&◌, if◌then◌else◌, List, Some, None, slice_get, refl, sym, ap, subst, ◌∙◌, true≢false, arith, ◌⊎◌, inl, inr, ⊎_elim}
use Rattle.std.proofs.lemmas.Bool.{cases_eq, le-leb, and_right, and_from}
use Rattle.std.proofs.lemmas.Option.{same_Some}
use Rattle.np_state.specs.StateValues.{StateValue}
use Rattle.np_space.specs.Runs.{Next}
use Rattle.np_space.specs.Bounds.{is_at_most, sum_of}
use Rattle.np_space.specs.declared.bound.Bound.{Bound}
use Rattle.np_space.specs.declared.bound.Bound.TheVariants.{AtLeast, NoPlan}
use Rattle.np_space.specs.declared.judged.Judged.{Judged}
use Rattle.np_search.specs.declared.open_list.Key.{Key}
use Rattle.np_search.specs.declared.tree.Node.{Node}
use Rattle.np_search.specs.Opens.{Entries, Takes, IsAtMostKey, IsLeast}
use Rattle.np_search.specs.Keys.{key_of, open_key, IsSameList}
use Rattle.np_search.specs.Frontiers.{IsKeptAt, IsKeptWithin, IsClosed, IsFrontier, f_value}
use Rattle.np_search.specs.Weights.{again_key, weight, weight_at}
use Rattle.np_search.specs.Trees.{IsTree, IsDone, IsUnderWay, IsKnownAfter}
use Rattle.np_search.specs.Choices.{IsEmpty, IsNext}
use Rattle.np_search.proofs.BoundSums.{same_bound}
use Rattle.np_search.proofs.Places.{get_beside}
use Rattle.np_search.proofs.Kept.{within_weaker}
use Rattle.np_search.proofs.Moves.{same_key, same_entries}
use Rattle.np_search.proofs.Sums.{bit, sum_at_lt}
use Rattle.np_search.proofs.Lowering.{key_again}
use Rattle.np_search.proofs.Steps.{done_along}

-- the key of a node that isn't expanded
pub key_open : (node : Node) → node.expanded ≡ false → key_of node ≡ open_key node.cost node.judged.bound
key_open node e = ap (λ b. if b then Some (again_key node.cost) else open_key node.cost node.judged.bound) e

-- a bound that is a number, and the key's first part
pub record IsPriced (cost : ℕ) (bound : Bound) (key : Key) : Type 0 where
  pub m : ℕ
  pub is : bound ≡ AtLeast m
  pub first : key.first ≡ cost + m + 1
  pub second : key.second ≡ m

pub priced : (cost : ℕ) (bound : Bound) (key : Key) → open_key cost bound ≡ Some key → IsPriced cost bound key
priced cost NoPlan key e = absurd (cc)
priced cost (AtLeast m) key e = record { m = m; is = refl; first = ap (λ (k : Key). k.first) (sym (same_Some _ key e)); second = ap (λ (k : Key). k.second) (sym (same_Some _ key e)) }

-- no claim is above `NoPlan`
pub below_none : (claim : Bound) → is_at_most claim NoPlan ≡ true
below_none NoPlan = refl
below_none (AtLeast n) = refl

-- fewer entries weigh no more
pub bit_mono : (e a b : Bool) → (a ≡ true → b ≡ true) → bit (e && a) ≤ bit (e && b)
bit_mono false a b h = omega arith
bit_mono true false true h = omega arith
bit_mono true false false h = omega arith
bit_mono true true true h = omega arith
bit_mono true true false h = absurd (true≢false (sym (h refl)))

module _ (next : Next StateValue) (goal : StateValue → Bool) (first : StateValue) (fits : StateValue → Judged → Type 0) (states : List StateValue) (nodes : List Node) (before : Entries) (t : IsTree next goal first fits states nodes before None) where
  none_is : (i : ℕ) → None ≢ Some i
  none_is i e = absurd (cc)

  -- a state with no entry of its key is closed
  closed_from : (i : ℕ) (s : StateValue) (n : Node) → before i (again_key n.cost) ≡ false → IsDone next goal states nodes before i s n → IsClosed next goal states nodes s n
  closed_from i s n out d =
      let h = d.present out in
      record {
        no_goal = d.no_goal;
        after = λ step x cost goes. within_weaker states nodes x (d.earlier + cost) (n.cost + cost) (omega (arith, h)) (d.after step x cost goes);
      }

  start_kept : IsKeptWithin states nodes first 0
  start_kept =
      let h = get_beside states nodes 0 first (sym t.one_node) t.start in
      let free = (t.root h.0 h.1).free in
      record { at = 0; node = h.0; kept = record { state = t.start; found = h.1 }; cheap = omega (arith, free) }

  -- where no expanded node waits, the open ones support a claim
  frontier : (claim : Bound) → ((i : ℕ) (s : StateValue) (n : Node) → IsKeptAt states nodes i s n → n.expanded ≡ true → before i (again_key n.cost) ≡ false) → ((i : ℕ) (n : Node) (m : ℕ) → slice_get nodes i ≡ Some n → n.expanded ≡ false → n.judged.bound ≡ AtLeast m → before i (record { first = n.cost + m + 1; second = m }) ≡ true → is_at_most claim (AtLeast (n.cost + m)) ≡ true) → IsFrontier next goal first states nodes claim
  frontier claim settled supported = record {
    start = start_kept;
    closed = λ i s n kept e. closed_from i s n (settled i s n kept e) (t.done i s n kept (none_is i) e);
    bounds = λ i s n kept. (t.sound i s n kept).bound;
    claimed = λ i s n kept fresh. by i n kept.found fresh n.judged.bound refl;
  }
    where
      by : (i : ℕ) (n : Node) → slice_get nodes i ≡ Some n → n.expanded ≡ false → (b : Bound) → n.judged.bound ≡ b → is_at_most claim (f_value n) ≡ true
      by i n at fresh NoPlan e = subst (λ (x : Bound). is_at_most claim (sum_of (AtLeast n.cost) x) ≡ true) (sym e) (below_none claim)
      by i n at fresh (AtLeast m) e =
          let key : Key = record { first = n.cost + m + 1; second = m } in
          let keyed : key_of n ≡ Some key = key_open n fresh ∙ ap (open_key n.cost) e in
          subst (λ (x : Bound). is_at_most claim (sum_of (AtLeast n.cost) x) ≡ true) (sym e) (supported i n m at fresh e (t.listed.there i n key at (none_is i) fresh keyed))

  -- with an empty list there is no plan
  pub settled_empty : (list : Entries) → IsSameList before list → ((i : ℕ) (key : Key) → before i key ≡ false) → IsEmpty next goal first fits states nodes list
  settled_empty list same out = record {
    tree = subst (λ (l : Entries). IsTree next goal first fits states nodes l None) (same_entries before list same) t;
    frontier = frontier NoPlan (λ i s n kept e. out i (again_key n.cost)) (λ i n m at fresh e there. absurd (true≢false (sym there ∙ out i (record { first = n.cost + m + 1; second = m }))));
  }

  module _ (list : Entries) (at : ℕ) (key : Key) (took : Takes before list at key) (member : before at key ≡ true) where
    abbrev node : Node
    node = (t.listed.only at key member).0

    found : slice_get nodes at ≡ Some node
    found = (t.listed.only at key member).1

    keyed : key_of node ≡ Some key
    keyed = (t.listed.only at key member).2

    beside : (i : ℕ) (k : Key) → i ≢ at → list i k ≡ before i k
    beside i k ne = took.others i k (λ h. ne h.0)

    absent : (k : Key) → list at k ≡ false
    absent k = by (list at k) refl (same_key k key)
      where
        by : (b : Bool) → list at k ≡ b → (k ≡ key) ⊎ ¬ (k ≡ key) → b ≡ false
        by false e same = refl
        by true e (inl same) = absurd (true≢false (sym e ∙ ap (list at) same ∙ took.gone))
        by true e (inr other) =
            let old = t.listed.only at k (sym (took.others at k (λ h. other h.1)) ∙ e) in
            let one : old.0 ≡ node = same_Some old.0 node (sym old.1 ∙ found) in
            absurd (other (same_Some k key (sym old.2 ∙ ap key_of one ∙ keyed)))

    fewer : (i : ℕ) (k : Key) → list i k ≡ true → before i k ≡ true
    fewer i k e = ⊎_elim
        (λ (h : i ≡ at). absurd (true≢false (sym e ∙ ap (λ (j : ℕ). list j k) h ∙ absent k)))
        (λ (ne : i ≢ at). sym (beside i k ne) ∙ e)
        (cases_eq i at)

    apart : (i : ℕ) → Some at ≢ Some i → i ≢ at
    apart i other e = other (ap Some (sym e))

    pub tree_popped : IsTree next goal first fits states nodes list (Some at)
    tree_popped = record {
      one_node = t.one_node;
      start = t.start;
      distinct = t.distinct;
      n = t.n;
      counted = t.counted;
      root = t.root;
      sound = t.sound;
      done = λ i s n kept other e. done_along next goal states states nodes nodes before list (λ x k h. h) i s n (beside i (again_key n.cost) (apart i other)) (t.done i s n kept (none_is i) e);
      linked = t.linked;
      listed = record {
        only = λ i k e. t.listed.only i k (fewer i k e);
        there = λ i n k there other fresh e. beside i k (apart i other) ∙ t.listed.there i n k there (none_is i) fresh e;
      };
    }

    -- an expanded node is expanded again
    module _ (expanded : node.expanded ≡ true) where
      pub popped_under_way : IsUnderWay next goal states nodes list at 0
      popped_under_way =
          let h = get_beside nodes states at node t.one_node found in
          let d = t.done at h.0 node (record { state = h.1; found = found }) (none_is at) expanded in
          record {
            s = h.0;
            node = node;
            kept = record { state = h.1; found = found };
            expanded = expanded;
            no_goal = d.no_goal;
            absent = absent;
            taken = λ k x cost lt goes. absurd (omega arith);
          }

      pub popped_known : IsKnownAfter next states at
      popped_known = record {
        known = λ s step x cost there goes.
            let k = (t.done at s node (record { state = there; found = found }) (none_is at) expanded).after step x cost goes in
            (k.at, k.kept.state);
      }

      -- and less is left to do
      pub popped_weight : weight list nodes < weight before nodes
      popped_weight =
          let again : key ≡ again_key node.cost = same_Some key (again_key node.cost) (sym keyed ∙ key_again node expanded) in
          let was : before at (again_key node.cost) ≡ true = ap (before at) (sym again) ∙ member in
          let less : bit (node.expanded && list at (again_key node.cost)) ≡ 0 = ap bit (and_right node.expanded (list at (again_key node.cost)) (absent (again_key node.cost))) in
          let more : bit (node.expanded && before at (again_key node.cost)) ≡ 1 = ap bit (and_from node.expanded (before at (again_key node.cost)) expanded was) in
          sum_at_lt (weight_at list) (weight_at before) nodes nodes at node node refl (λ i x y p q. each i x y (same_Some x y (sym p ∙ q))) found found (omega (arith, less, more))
        where
          each : (i : ℕ) (x y : Node) → x ≡ y → weight_at list i x ≤ weight_at before i y
          each i x y e =
              let same : weight_at before i x ≡ weight_at before i y = ap (weight_at before i) e in
              let bits = bit_mono x.expanded (list i (again_key x.cost)) (before i (again_key x.cost)) (fewer i (again_key x.cost)) in
              omega (arith, same, bits)

    -- an open node of least key comes next
    pub popped_next : node.expanded ≡ false → IsLeast before key → IsNext next goal first fits states nodes list at (key.first - 1)
    popped_next fresh least =
        let price = priced node.cost node.judged.bound key (sym (key_open node fresh) ∙ keyed) in
        let cost = price.first in
        let state = get_beside nodes states at node t.one_node found in
        record {
          tree = tree_popped;
          frontier = frontier (AtLeast (key.first - 1))
              (λ i s n kept e. settled price (before i (again_key n.cost)) i n.cost refl)
              (λ i n m there open_still e listed. claimed n.cost m (least.least i (record { first = n.cost + m + 1; second = m }) listed));
          here = record {
            s = state.0;
            node = node;
            kept = record { state = state.1; found = found };
            fresh = fresh;
            absent = absent;
            due = ap (sum_of (AtLeast node.cost)) price.is ∙ ap AtLeast (omega (arith, cost));
            least = λ i other there open_still same. least_bound price i other there open_still other.judged.bound refl same;
          };
        }
      where
        settled : IsPriced node.cost node.judged.bound key → (b : Bool) (i cost : ℕ) → before i (again_key cost) ≡ b → b ≡ false
        settled price false i cost e = refl
        settled price true i cost e =
            let first = price.first in
            ⊎_elim
            (λ (h : key.first < 0). absurd (omega (arith, h)))
            (λ (h : (key.first ≡ 0) × (key.second ≤ cost)). let z = h.0 in absurd (omega (arith, z, first)))
            (least.least i (again_key cost) e)

        in_order : IsPriced node.cost node.judged.bound key → (cost m : ℕ) → AtLeast (cost + m) ≡ AtLeast (key.first - 1) → IsAtMostKey key (record { first = cost + m + 1; second = m }) → is_at_most node.judged.bound (AtLeast m) ≡ true
        in_order price cost m same (inl h) = let e = same_bound (cost + m) (key.first - 1) same in let first = price.first in absurd (omega (arith, e, first, h))
        in_order price cost m same (inr h) = let e = h.1 in let second = price.second in subst (λ (b : Bound). is_at_most b (AtLeast m) ≡ true) (sym price.is) (le-leb price.m m (omega (arith, e, second)))

        least_bound : IsPriced node.cost node.judged.bound key → (i : ℕ) (other : Node) → slice_get nodes i ≡ Some other → other.expanded ≡ false → (b : Bound) → other.judged.bound ≡ b → f_value other ≡ AtLeast (key.first - 1) → is_at_most node.judged.bound other.judged.bound ≡ true
        least_bound price i other there open_still NoPlan e same = subst (λ (b : Bound). is_at_most node.judged.bound b ≡ true) (sym e) (below_none node.judged.bound)
        least_bound price i other there open_still (AtLeast m) e same =
            let other_key : Key = record { first = other.cost + m + 1; second = m } in
            let keyed_so : key_of other ≡ Some other_key = key_open other open_still ∙ ap (open_key other.cost) e in
            let listed = t.listed.there i other other_key there (none_is i) open_still keyed_so in
            subst (λ (b : Bound). is_at_most node.judged.bound b ≡ true) (sym e)
            (in_order price other.cost m (ap (sum_of (AtLeast other.cost)) (sym e) ∙ same) (least.least i other_key listed))

        claimed : (cost m : ℕ) → IsAtMostKey key (record { first = cost + m + 1; second = m }) → is_at_most (AtLeast (key.first - 1)) (AtLeast (cost + m)) ≡ true
        claimed cost m (inl h) = le-leb (key.first - 1) (cost + m) (omega (arith, h))
        claimed cost m (inr h) = let e = h.0 in le-leb (key.first - 1) (cost + m) (omega (arith, e))
