-- What a search knows when it ends.
use Rattle.std.proofs.Common.{◌≡◌, ℕ, ◌≤◌, Bool, List, Option, Some, None, slice_get, sym, ap, ◌∙◌, arith}
use Rattle.std.proofs.lemmas.Option.{same_Some}
use Rattle.np_state.specs.StateValues.{StateValue}
use Rattle.np_space.specs.Runs.{Next}
use Rattle.np_space.specs.declared.bound.Bound.{Bound}
use Rattle.np_space.specs.declared.bound.Bound.TheVariants.{AtLeast, NoPlan}
use Rattle.np_space.specs.declared.judged.Judged.{Judged}
use Rattle.np_search.specs.declared.tree.Node.{Node}
use Rattle.np_search.specs.Opens.{Entries}
use Rattle.np_search.specs.Frontiers.{IsKeptAt, IsFrontier}
use Rattle.np_search.specs.Outcomes.{expanded_count, HasParents, IsRight, IsCheapestAt, IsSpentAt}
use Rattle.np_search.specs.Trees.{IsTree}
use Rattle.np_search.specs.Choices.{IsEmpty, IsGoalNext, IsOpenNext}
use Rattle.np_search.proofs.Optimal.{no_cheaper}
use Rattle.np_search.proofs.Places.{get_beside}
use Rattle.np_search.proofs.Ways.{run_of_parents}

module _ (next : Next StateValue) (goal : StateValue → Bool) (first : StateValue) (fits : StateValue → Judged → Type 0) (states : List StateValue) (nodes : List Node) (list : Entries) where
  module _ (but : Option ℕ) (t : IsTree next goal first fits states nodes list but) where
    -- a node's state
    state_of : (i : ℕ) (node : Node) → slice_get nodes i ≡ Some node → (s : StateValue) × IsKeptAt states nodes i s node
    state_of i node there = let h = get_beside nodes states i node t.one_node there in (h.0, record { state = h.1; found = there })

    parents : HasParents nodes
    parents = record {
      root = λ node there. (t.root node there).no_parent;
      start = λ i node there none. t.linked.only i node there none;
      expanded = λ i j step node parent there is found.
          let k = state_of i node there in
          let l = t.linked.link i j step k.0 node k.1 is in
          let same : l.parent ≡ parent = same_Some l.parent parent (sym l.kept.found ∙ found) in
          ap (λ (n : Node). n.expanded) (sym same) ∙ l.expanded;
    }

    pub right : (claim : Bound) → IsFrontier next goal first states nodes claim → (n : ℕ) → expanded_count nodes ≤ n → IsRight next goal first fits states nodes claim n
    right claim frontier n few = record {
      one_node = t.one_node;
      distinct = t.distinct;
      start = t.start;
      frontier = frontier;
      judged = λ i s node kept. (t.sound i s node kept).judged;
      small = λ i node there. let k = state_of i node there in (t.sound i k.0 node k.1).small;
      hopeful = λ i node there e. let k = state_of i node there in (t.sound i k.0 node k.1).hopeful e;
      due = λ i node there e steps cost plan. let k = state_of i node there in (t.sound i k.0 node k.1).due e steps cost plan;
      cheapest = λ steps cost plan. no_cheaper next goal first states nodes claim frontier steps cost plan;
      parents = parents;
      runs = λ i s node kept.
          let r = run_of_parents next goal first fits states nodes list but t claim frontier i s node kept in
          record { back = r.back; way = r.way; ran = r.ran; few = let h = r.few in omega (arith, h, few) };
      few = few;
    }

  -- a goal
  pub goal_found : (i n : ℕ) → IsGoalNext next goal first fits states nodes list i → expanded_count nodes ≤ n → IsCheapestAt next goal first fits states nodes i n
  goal_found i n g few = record { cost = g.cost; right = right (Some i) g.tree (AtLeast g.cost) g.frontier n few; at = g.here }

  -- nothing is left
  pub none_found : (n : ℕ) → IsEmpty next goal first fits states nodes list → expanded_count nodes ≤ n → IsRight next goal first fits states nodes NoPlan n
  none_found n e few = right None e.tree NoPlan e.frontier n few

  -- the budget is spent
  pub spent_found : (i f n : ℕ) → IsOpenNext next goal first fits states nodes list i f → expanded_count nodes ≡ n → IsSpentAt next goal first fits states nodes (AtLeast f) n
  spent_found i f n o all =
      let near = (o.tree.sound i o.here.s o.here.node o.here.kept).near in
      record {
        right = right (Some i) o.tree (AtLeast f) o.frontier n (omega (arith, all));
        spent = record {
          spent = all;
          at = i;
          s = o.here.s;
          node = o.here.node;
          kept = o.here.kept;
          reached = record { steps = near.reached.steps; cost = near.reached.cost; ran = near.reached.ran };
          no_goal = o.no_goal;
          fresh = o.here.fresh;
          due = o.here.due;
          least = o.here.least;
        };
      }
