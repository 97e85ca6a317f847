-- What comes next, by whether it is a goal.
use Rattle.std.proofs.Common.{◌≡◌, ℕ, ◌+◌, Bool, true, false, List, [], Some, slice_get, refl, sym, ap, subst, ◌∙◌, arith}
use Rattle.std.proofs.lemmas.Option.{same_Some}
use Rattle.np_state.specs.StateValues.{StateValue}
use Rattle.np_space.specs.Runs.{Next}
use Rattle.np_space.specs.Bounds.{IsAtMostCost, sum_of}
use Rattle.np_space.specs.declared.bound.Bound.{Bound}
use Rattle.np_space.specs.declared.bound.Bound.TheVariants.{AtLeast, NoPlan}
use Rattle.np_space.specs.declared.judged.Judged.{Judged}
use Rattle.np_search.specs.declared.tree.Node.{Node}
use Rattle.np_search.specs.Opens.{Entries}
use Rattle.np_search.specs.Frontiers.{IsFrontier}
use Rattle.np_search.specs.Choices.{IsNext, IsGoalNext, IsOpenNext}
use Rattle.np_search.proofs.BoundSums.{same_bound}

-- a goal's path cost and bound together are the path cost
free_bound : (cost f : ℕ) (b : Bound) → IsAtMostCost b 0 → sum_of (AtLeast cost) b ≡ AtLeast f → f ≡ cost
free_bound cost f NoPlan h e = absurd h
free_bound cost f (AtLeast m) h e = let sum : cost + m ≡ f = same_bound (cost + m) f e in omega (arith, h, sum)

module _ (next : Next StateValue) (goal : StateValue → Bool) (first : StateValue) (fits : StateValue → Judged → Type 0) (states : List StateValue) (nodes : List Node) (list : Entries) (at f : ℕ) (n : IsNext next goal first fits states nodes list at f) (said : StateValue) (there : slice_get states at ≡ Some said) where
  said_is : said ≡ n.here.s
  said_is = same_Some said n.here.s (sym there ∙ n.here.kept.state)

  pub goal_next : goal said ≡ true → IsGoalNext next goal first fits states nodes list at
  goal_next at_goal =
      let here : goal n.here.s ≡ true = ap goal (sym said_is) ∙ at_goal in
      let sound = n.tree.sound at n.here.s n.here.node n.here.kept in
      let free = sound.bound.least [] 0 (record { end = n.here.s; ran = refl; at_goal = here }) in
      let cost = free_bound n.here.node.cost f n.here.node.judged.bound free n.here.due in
      record {
        cost = n.here.node.cost;
        tree = n.tree;
        frontier = subst (λ (x : ℕ). IsFrontier next goal first states nodes (AtLeast x)) cost n.frontier;
        here = record { s = n.here.s; node = n.here.node; kept = n.here.kept; at_goal = here; cost_is = refl };
      }

  pub open_next : goal said ≡ false → IsOpenNext next goal first fits states nodes list at f
  open_next none = record { tree = n.tree; frontier = n.frontier; here = n.here; no_goal = ap goal (sym said_is) ∙ none }
