use Rattle.std.proofs.Common.{◌≡◌, None}
use Rattle.np_search.specs.Opens.{is_in}
use Rattle.np_search.specs.Outcomes.{expanded_count}
use Rattle.np_search.specs.Spaces.{IsSameSpace}
use Rattle.np_search.specs.Trees.{IsTree}
use Rattle.np_search.proofs.astar.advance.Given as goal

abbrev pub invariant-loop : goal.invariant-loop
invariant-loop g l = record {
  tree : IsTree (g.P.Space.next_of l.space) (g.P.Space.goal l.space) (g.P.Space.first l.space) (g.P.Space.fits l.space) l.tree.states l.tree.nodes.items (is_in l.list) None;
  count : expanded_count l.tree.nodes.items ≡ l.counter;
  space : IsSameSpace g.P.Space.first g.P.Space.goal g.P.Space.count g.P.Space.next_of g.P.Space.fits l.initial.space l.space;
}
