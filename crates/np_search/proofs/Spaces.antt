-- A space that means the same as before.
use Rattle.std.proofs.Common.{ℕ, Bool, List, Option, refl, sym, subst, ◌∙◌, arith}
use Rattle.np_state.specs.StateValues.{StateValue}
use Rattle.np_space.specs.Runs.{Next}
use Rattle.np_space.specs.declared.judged.Judged.{Judged}
use Rattle.np_search.specs.declared.tree.Node.{Node}
use Rattle.np_search.specs.Opens.{Entries}
use Rattle.np_search.specs.Spaces.{IsSameSpace}
use Rattle.np_search.specs.Weights.{IsNoMore}
use Rattle.np_search.specs.Trees.{IsTree, IsKnownAfter}

-- what is known of bounds can be more
pub tree_fits : (next : Next StateValue) (goal : StateValue → Bool) (first : StateValue) (fits more : StateValue → Judged → Type 0) → ((s : StateValue) (j : Judged) → fits s j → more s j) → (states : List StateValue) (nodes : List Node) (list : Entries) (but : Option ℕ) → IsTree next goal first fits states nodes list but → IsTree next goal first more states nodes list but
tree_fits next goal first fits more keeps states nodes list but t = record {
  one_node = t.one_node;
  start = t.start;
  distinct = t.distinct;
  n = t.n;
  counted = t.counted;
  root = t.root;
  sound = λ i s node kept.
      let h = t.sound i s node kept in
      record { near = h.near; bound = h.bound; small = h.small; judged = keeps s node.judged h.judged; hopeful = h.hopeful; due = h.due };
  done = t.done;
  linked = t.linked;
  listed = t.listed;
}

module _ {S : Type 0} (first : S → StateValue) (goal : S → StateValue → Bool) (count : S → ℕ) (next_of : S → Next StateValue) (fits : S → StateValue → Judged → Type 0) where
  pub same_refl : (x : S) → IsSameSpace first goal count next_of fits x x
  same_refl x = record { keeps = λ s j h. h; same_first = refl; same_goal = refl; same_count = refl; same_next = refl }

  pub same_trans : (x y z : S) → IsSameSpace first goal count next_of fits x y → IsSameSpace first goal count next_of fits y z → IsSameSpace first goal count next_of fits x z
  same_trans x y z a b = record {
    keeps = λ s j h. b.keeps s j (a.keeps s j h);
    same_first = b.same_first ∙ a.same_first;
    same_goal = b.same_goal ∙ a.same_goal;
    same_count = b.same_count ∙ a.same_count;
    same_next = b.same_next ∙ a.same_next;
  }

  module _ (old new : S) (same : IsSameSpace first goal count next_of fits old new) where
    pub tree_kept : (states : List StateValue) (nodes : List Node) (list : Entries) (but : Option ℕ) → IsTree (next_of old) (goal old) (first old) (fits old) states nodes list but → IsTree (next_of new) (goal new) (first new) (fits new) states nodes list but
    tree_kept states nodes list but t =
        subst (λ (x : Next StateValue). IsTree x (goal new) (first new) (fits new) states nodes list but) (sym same.same_next)
        (subst (λ (x : StateValue → Bool). IsTree (next_of old) x (first new) (fits new) states nodes list but) (sym same.same_goal)
        (subst (λ (x : StateValue). IsTree (next_of old) (goal old) x (fits new) states nodes list but) (sym same.same_first)
        (tree_fits (next_of old) (goal old) (first old) (fits old) (fits new) same.keeps states nodes list but t)))

    pub known_kept : (states : List StateValue) (at : ℕ) → IsKnownAfter (next_of old) states at → IsKnownAfter (next_of new) states at
    known_kept states at k = subst (λ (x : Next StateValue). IsKnownAfter x states at) (sym same.same_next) k

    -- where the states stay
    pub known_now : (states now : List StateValue) (at before after : ℕ) → IsNoMore states now before after → IsKnownAfter (next_of old) states at → IsKnownAfter (next_of new) now at
    known_now states now at before after more k = subst (λ (ss : List StateValue). IsKnownAfter (next_of new) ss at) (sym more.same) (known_kept states at k)

pub no_more_trans : (a b c : List StateValue) (x y z : ℕ) → IsNoMore a b x y → IsNoMore b c y z → IsNoMore a c x z
no_more_trans a b c x y z p q = record { same = q.same ∙ p.same; less = let h = p.less in let k = q.less in omega (arith, h, k) }
