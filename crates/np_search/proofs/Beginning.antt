-- The start alone.
use Rattle.std.proofs.Common.{◌≡◌, ℕ, Bool, true, false, List, [], ◌∷◌, Some, None, slice_get, refl, sym, ap, subst, ◌∙◌, true≢false, arith, ⊎_elim}
use Rattle.np_state.specs.StateValues.{StateValue}
use Rattle.np_state.specs.Interning.{AreDistinct, IsNumberOf}
use Rattle.np_space.specs.Runs.{Next}
use Rattle.np_space.specs.declared.judged.Judged.{Judged}
use Rattle.np_search.specs.declared.open_list.Key.{Key}
use Rattle.np_search.specs.declared.tree.Node.{Node}
use Rattle.np_search.specs.Opens.{Entries}
use Rattle.np_search.specs.Keys.{key_of, PutsAny}
use Rattle.np_search.specs.Frontiers.{IsKeptAt}
use Rattle.np_search.specs.Outcomes.{expanded_count}
use Rattle.np_search.specs.Changes.{IsFound, IsPushed}
use Rattle.np_search.specs.Trees.{IsTree, IsSound, AreListed}
use Rattle.np_search.proofs.Places.{get_push}
use Rattle.np_search.proofs.Kept.{kept_push}
use Rattle.np_search.proofs.Counts.{count_push}
use Rattle.np_search.proofs.Runs.{reached_first}
use Rattle.np_search.proofs.Adding.{distinct_push, listed_push}

-- a list without elements has no place
pub no_place : {X : Type 0} (i : ℕ) (x : X) → slice_get [] i ≡ Some x → ⊥
no_place i x e = absurd (cc)

-- the first state is new
pub first_added : (states : List StateValue) (s : StateValue) (i : ℕ) (b : Bool) → IsNumberOf [] states s i b → states ≡ s ∷ []
first_added states s i true h = h.last
first_added states s i false h = absurd (no_place i s h.there)

module _ (next : Next StateValue) (goal : StateValue → Bool) (first : StateValue) (fits : StateValue → Judged → Type 0) (before list : Entries) (empty : (i : ℕ) (key : Key) → before i key ≡ false) (node : Node) (f : IsFound next goal fits first None 0 node) (put : PutsAny before list 0 (key_of node)) where
  sound : IsSound next goal first fits first node 0
  sound = record {
    near = record { depth = 0; reached = reached_first next first 0; cheap = let h = f.cost_is in omega (arith, h); few = omega arith; fewer = λ e. absurd (true≢false (sym e ∙ f.fresh)) };
    bound = f.bound;
    small = f.small;
    judged = f.judged;
    hopeful = λ e. absurd (true≢false (sym e ∙ f.fresh));
    due = λ e. absurd (true≢false (sym e ∙ f.fresh));
  }

  -- the one place
  only_place : (i : ℕ) (s : StateValue) (n : Node) → IsKeptAt (first ∷ []) (node ∷ []) i s n → (i ≡ 0) × (first ≡ s) × (node ≡ n)
  only_place i s n k = ⊎_elim
      (λ (h : (i ≡ 0) × (first ≡ s) × (node ≡ n)). h)
      (λ (h : IsKeptAt [] [] i s n). absurd (no_place i s h.state))
      (kept_push [] [] refl first node i s n k)

  only_node : (i : ℕ) (n : Node) → slice_get (node ∷ []) i ≡ Some n → (i ≡ 0) × (node ≡ n)
  only_node i n e = ⊎_elim
      (λ (h : (i ≡ 0) × (node ≡ n)). h)
      (λ (h : slice_get [] i ≡ Some n). absurd (no_place i n h))
      (get_push [] node i n e)

  none_listed : AreListed [] before None
  none_listed = record {
    only = λ i key e. absurd (true≢false (sym e ∙ empty i key));
    there = λ i n key at other fresh keyed. absurd (no_place i n at);
  }

  none_distinct : AreDistinct []
  none_distinct = record { one_number = λ i j s p q. absurd (no_place i s p) }

  pub tree_first : IsTree next goal first fits (first ∷ []) (node ∷ []) list None
  tree_first = record {
    one_node = refl;
    start = refl;
    distinct = distinct_push [] first none_distinct (λ j e. no_place j first e);
    n = 0;
    counted = count_push [] node f.fresh;
    root = λ n e. let h = only_node 0 n e in record { no_parent = ap (λ (m : Node). m.parent) (sym h.1) ∙ f.parent_is; free = ap (λ (m : Node). m.cost) (sym h.1) ∙ f.cost_is };
    sound = λ i s n k. let h = only_place i s n k in subst (λ (x : StateValue). IsSound next goal first fits x n 0) h.1 (subst (λ (m : Node). IsSound next goal first fits first m 0) h.2 sound);
    done = λ i s n k other expanded. let h = only_place i s n k in absurd (true≢false (sym expanded ∙ ap (λ (m : Node). m.expanded) (sym h.2) ∙ f.fresh));
    linked = record {
      found = λ i. 0;
      now = 1;
      past = λ i. omega arith;
      link = λ i j k s n kept e. let h = only_place i s n kept in absurd (let none : None ≡ Some (j, k) = sym f.parent_is ∙ ap (λ (m : Node). m.parent) h.2 ∙ e in cc);
      only = λ i n at e. (only_node i n at).0;
    };
    listed = listed_push [] node before list None none_listed put;
  }

-- as the code makes it
pub tree_begun : (next : Next StateValue) (goal : StateValue → Bool) (first said : StateValue) (fits : StateValue → Judged → Type 0) (before list : Entries) → ((i : ℕ) (key : Key) → before i key ≡ false) → (states : List StateValue) (i : ℕ) (b : Bool) → IsNumberOf [] states said i b → (nodes : List Node) (node : Node) → IsPushed [] nodes before list node → IsFound next goal fits said None 0 node → said ≡ first → IsTree next goal first fits states nodes list None
tree_begun next goal first said fits before list empty states i b number nodes node pushed f same =
    subst (λ (ss : List StateValue). IsTree next goal first fits ss nodes list None) (sym (first_added states said i b number ∙ ap (λ (s : StateValue). s ∷ []) same))
    (subst (λ (ns : List Node). IsTree next goal first fits (first ∷ []) ns list None) (sym pushed.last)
    (tree_first next goal first fits before list empty node (subst (λ (s : StateValue). IsFound next goal fits s None 0 node) same f) pushed.put))

pub none_expanded : (before list : Entries) (nodes : List Node) (node : Node) → IsPushed [] nodes before list node → node.expanded ≡ false → expanded_count nodes ≡ 0
none_expanded before list nodes node pushed fresh = ap expanded_count pushed.last ∙ count_push [] node fresh
