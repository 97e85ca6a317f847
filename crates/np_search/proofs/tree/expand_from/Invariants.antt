use Rattle.std.proofs.Common.{◌≡◌, Some}
use Rattle.np_search.specs.Opens.{is_in}
use Rattle.np_search.specs.Outcomes.{expanded_count}
use Rattle.np_search.specs.Spaces.{IsSameSpace}
use Rattle.np_search.specs.Weights.{weight, IsNoMore}
use Rattle.np_search.specs.Trees.{IsTree, IsUnderWay, IsKnownAfter}
use Rattle.np_search.proofs.tree.expand_from.Given as goal

abbrev pub invariant-loop-step : goal.invariant-loop-step
invariant-loop-step g l = record {
  tree : IsTree (g.P.Space.next_of l.space) (g.P.Space.goal l.space) (g.P.Space.first l.space) (g.P.Space.fits l.space) l.tree.states l.tree.nodes.items (is_in l.list) (Some l.at);
  under_way : IsUnderWay (g.P.Space.next_of l.space) (g.P.Space.goal l.space) l.tree.states l.tree.nodes.items (is_in l.list) l.at l.step;
  count : expanded_count l.tree.nodes.items ≡ expanded_count l.initial.tree.nodes.items;
  less : IsKnownAfter (g.P.Space.next_of l.initial.space) l.initial.tree.states l.at → IsNoMore l.initial.tree.states l.tree.states (weight (is_in l.initial.list) l.initial.tree.nodes.items) (weight (is_in l.list) l.tree.nodes.items);
  space : IsSameSpace g.P.Space.first g.P.Space.goal g.P.Space.count g.P.Space.next_of g.P.Space.fits l.initial.space l.space;
}
