-- What stays while a step is taken.
use Rattle.std.proofs.Common.{◌≡◌, ℕ, ◌+◌, ◌<◌, ◌≤◌, Bool, List, Some, refl, sym, ap, subst, ◌∙◌, arith, ◌⊎◌, inl, inr, ⊎_elim}
use Rattle.std.proofs.lemmas.Bool.{cases_lt}
use Rattle.np_state.specs.StateValues.{StateValue}
use Rattle.np_space.specs.Runs.{Next}
use Rattle.np_space.specs.declared.judged.Judged.{Judged}
use Rattle.np_search.specs.declared.tree.Node.{Node}
use Rattle.np_search.specs.Opens.{Entries}
use Rattle.np_search.specs.Keys.{IsSameList}
use Rattle.np_search.specs.Frontiers.{IsKeptWithin}
use Rattle.np_search.specs.Outcomes.{expanded_count}
use Rattle.np_search.specs.Weights.{again_key, weight, IsNoMore}
use Rattle.np_search.specs.Trees.{IsTree, IsDone, IsUnderWay, IsKnownAfter}
use Rattle.np_search.proofs.Moves.{same_entries}

-- after one more step
pub record IsTaken (next : Next StateValue) (goal : StateValue → Bool) (first : StateValue) (fits : StateValue → Judged → Type 0) (old new : List StateValue) (nodes more : List Node) (before list : Entries) (at step : ℕ) : Type 0 where
  pub tree : IsTree next goal first fits new more list (Some at)
  pub under_way : IsUnderWay next goal new more list at (step + 1)
  pub count : expanded_count more ≡ expanded_count nodes
  pub less : IsKnownAfter next old at → IsNoMore old new (weight before nodes) (weight list more)

-- below, or the last below one more
pub below_or_at : (j k : ℕ) → j < k + 1 → (j < k) ⊎ (j ≡ k)
below_or_at j k h = ⊎_elim (λ (l : j < k). inl l) (λ (g : k ≤ j). inr (omega arith)) (cases_lt j k)

module _ (next : Next StateValue) (goal : StateValue → Bool) where
  -- an expanded node stays so where the kept states stay, and its entry
  pub done_along : (states new : List StateValue) (nodes more : List Node) (before list : Entries) → ((s : StateValue) (m : ℕ) → IsKeptWithin states nodes s m → IsKeptWithin new more s m) → (i : ℕ) (s : StateValue) (n : Node) → list i (again_key n.cost) ≡ before i (again_key n.cost) → IsDone next goal states nodes before i s n → IsDone next goal new more list i s n
  done_along states new nodes more before list within i s n same d = record {
    no_goal = d.no_goal;
    earlier = d.earlier;
    after = λ step t cost goes. within t (d.earlier + cost) (d.after step t cost goes);
    present = λ h. d.present (sym same ∙ h);
  }

  -- the steps that are taken, and one more
  pub taken_more : (states new : List StateValue) (nodes more : List Node) (s : StateValue) (g step : ℕ) → ((s : StateValue) (m : ℕ) → IsKeptWithin states nodes s m → IsKeptWithin new more s m) → ((j : ℕ) (t : StateValue) (cost : ℕ) → j < step → next s j ≡ Some (t, cost) → IsKeptWithin states nodes t (g + cost)) → ((t : StateValue) (cost : ℕ) → next s step ≡ Some (t, cost) → IsKeptWithin new more t (g + cost)) → (j : ℕ) (t : StateValue) (cost : ℕ) → j < step + 1 → next s j ≡ Some (t, cost) → IsKeptWithin new more t (g + cost)
  taken_more states new nodes more s g step within taken here j t cost lt goes =
      ⊎_elim
      (λ (below : j < step). within t (g + cost) (taken j t cost below goes))
      (λ (last : j ≡ step). here t cost (ap (next s) (sym last) ∙ goes))
      (below_or_at j step lt)

  module _ (first : StateValue) (fits : StateValue → Judged → Type 0) (states : List StateValue) (nodes : List Node) (at step : ℕ) where
    -- where the lists have the same entries, and what the step leads to is kept, nothing changes
    pub taken_same : (before list : Entries) → IsTree next goal first fits states nodes before (Some at) → (u : IsUnderWay next goal states nodes before at step) → IsSameList before list → ((t : StateValue) (cost : ℕ) → next u.s step ≡ Some (t, cost) → IsKeptWithin states nodes t (u.node.cost + cost)) → IsTaken next goal first fits states states nodes nodes before list at step
    taken_same before list t u same here =
        subst (λ (l : Entries). IsTaken next goal first fits states states nodes nodes before l at step) (same_entries before list same) (record {
          tree = t;
          under_way = record {
            s = u.s;
            node = u.node;
            kept = u.kept;
            expanded = u.expanded;
            no_goal = u.no_goal;
            absent = u.absent;
            taken = taken_more states states nodes nodes u.s u.node.cost step (λ s m k. k) u.taken here;
          };
          count = refl;
          less = λ known. record { same = refl; less = omega arith };
        })
