use Rattle.std.proofs.Common.{◌≡◌, None}
use Rattle.np_search.specs.Opens.{is_in}
use Rattle.np_search.specs.Outcomes.{expanded_count}
use Rattle.np_search.specs.Spaces.{IsSameSpace}
use Rattle.np_search.specs.Weights.{weight}
use Rattle.np_search.specs.Trees.{IsTree}
use Rattle.np_search.proofs.astar.settle.Given as goal

abbrev pub invariant-loop-at : goal.invariant-loop-at
invariant-loop-at g l = record {
  tree : IsTree (g.P.Space.next_of l.space) (g.P.Space.goal l.space) (g.P.Space.first l.space) (g.P.Space.fits l.space) l.tree.states l.tree.nodes.items (is_in l.list) None;
  count : expanded_count l.tree.nodes.items ≡ expanded_count l.initial.tree.nodes.items;
  space : IsSameSpace g.P.Space.first g.P.Space.goal g.P.Space.count g.P.Space.next_of g.P.Space.fits l.initial.space l.space;
}

abbrev pub decreases-loop-at : goal.decreases-loop-at
decreases-loop-at g l = weight (is_in l.list) l.tree.nodes.items
