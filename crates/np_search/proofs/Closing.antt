-- A state all of whose steps are taken.
use Rattle.std.proofs.Common.{◌≡◌, ◌≢◌, ℕ, ◌<◌, ◌≤◌, Bool, true, false, List, Some, None, slice_get, sym, ap, subst, ◌∙◌, true≢false, arith, ◌⊎◌, inl, inr, ⊎_elim}
use Rattle.std.proofs.lemmas.Bool.{cases_eq, cases_lt}
use Rattle.std.proofs.lemmas.Option.{same_Some}
use Rattle.np_state.specs.StateValues.{StateValue}
use Rattle.np_space.specs.Runs.{Next}
use Rattle.np_space.specs.declared.judged.Judged.{Judged}
use Rattle.np_search.specs.declared.open_list.Key.{Key}
use Rattle.np_search.specs.declared.tree.Node.{Node}
use Rattle.np_search.specs.Opens.{Entries}
use Rattle.np_search.specs.Keys.{key_of}
use Rattle.np_search.specs.Frontiers.{IsKeptAt}
use Rattle.np_search.specs.Trees.{IsTree, IsDone, IsUnderWay}

-- other numbers
pub other_some : (i j : ℕ) → i ≢ j → Some i ≢ Some j
other_some i j ne e = ne (same_Some i j e)

module _ (next : Next StateValue) (goal : StateValue → Bool) (first : StateValue) (fits : StateValue → Judged → Type 0) (states : List StateValue) (nodes : List Node) (list : Entries) (at steps : ℕ) (t : IsTree next goal first fits states nodes list (Some at)) (u : IsUnderWay next goal states nodes list at steps) (bounded : (k : ℕ) → steps ≤ k → next u.s k ≡ None) where
  same_node : (i : ℕ) (n : Node) → i ≡ at → slice_get nodes i ≡ Some n → u.node ≡ n
  same_node i n e there = same_Some u.node n (sym u.kept.found ∙ ap (slice_get nodes) (sym e) ∙ there)

  same_state : (i : ℕ) (s : StateValue) → i ≡ at → slice_get states i ≡ Some s → u.s ≡ s
  same_state i s e there = same_Some u.s s (sym u.kept.state ∙ ap (slice_get states) (sym e) ∙ there)

  done_here : (i : ℕ) → IsDone next goal states nodes list i u.s u.node
  done_here i = record {
    no_goal = u.no_goal;
    earlier = u.node.cost;
    after = λ k x cost goes.
        ⊎_elim
        (λ (below : k < steps). u.taken k x cost below goes)
        (λ (past : steps ≤ k). absurd (let e : None ≡ Some (x, cost) = sym (bounded k past) ∙ goes in cc))
        (cases_lt k steps);
    present = λ out. omega arith;
  }

  done : (i : ℕ) (s : StateValue) (n : Node) → IsKeptAt states nodes i s n → n.expanded ≡ true → (i ≡ at) ⊎ (i ≢ at) → IsDone next goal states nodes list i s n
  done i s n kept expanded (inl e) = subst (λ (x : StateValue). IsDone next goal states nodes list i x n) (same_state i s e kept.state) (subst (λ (x : Node). IsDone next goal states nodes list i u.s x) (same_node i n e kept.found) (done_here i))
  done i s n kept expanded (inr ne) = t.done i s n kept (other_some at i (λ e. ne (sym e))) expanded

  there : (i : ℕ) (n : Node) (key : Key) → slice_get nodes i ≡ Some n → n.expanded ≡ false → key_of n ≡ Some key → (i ≡ at) ⊎ (i ≢ at) → list i key ≡ true
  there i n key found fresh keyed (inl e) = absurd (true≢false (sym u.expanded ∙ ap (λ (x : Node). x.expanded) (same_node i n e found) ∙ fresh))
  there i n key found fresh keyed (inr ne) = t.listed.there i n key found (other_some at i (λ e. ne (sym e))) fresh keyed

  pub tree_closed : IsTree next goal first fits states nodes list None
  tree_closed = record {
    one_node = t.one_node;
    start = t.start;
    distinct = t.distinct;
    n = t.n;
    counted = t.counted;
    root = t.root;
    sound = t.sound;
    done = λ i s n kept other expanded. done i s n kept expanded (cases_eq i at);
    linked = t.linked;
    listed = record { only = t.listed.only; there = λ i n key found other fresh keyed. there i n key found fresh keyed (cases_eq i at) };
  }
