use Rattle.std.proofs.Common.{subst}
use Rattle.np_search.specs.Opens.{is_in}
use Rattle.np_search.specs.Outcomes.{expanded_count}
use Rattle.np_search.specs.Choices.{IsChoice, IsEndOf}
use Rattle.np_search.proofs.Spaces.{same_trans}
use Rattle.np_search.proofs.Right.{goal_found, none_found, spent_found}
use Rattle.np_search.proofs.astar.search.Goals as goal

pub advance-requires : goal.advance-requires
advance-requires g c = record { tree = c.in_ok-tree.ensures.tree; none = c.in_ok-tree.ensures.count; few = c.requires }

pub returns-in-Goal : goal.returns-in-Goal
returns-in-Goal g c =
    let chosen = subst (IsChoice (g.P.Space.next_of c.advance.new.space) (g.P.Space.goal c.advance.new.space) (g.P.Space.first c.advance.new.space) (g.P.Space.fits c.advance.new.space) c.advance.new.tree.states c.advance.new.tree.nodes.items (is_in c.advance.new.list)) c.in-Goal.is c.in_ok-goal.ensures.choice in
    let count = subst (IsEndOf (expanded_count c.advance.new.tree.nodes.items) c.args.nodes) c.in-Goal.is c.in_ok-goal.ensures.end in
    record {
      outcome = goal_found (g.P.Space.next_of c.advance.new.space) (g.P.Space.goal c.advance.new.space) (g.P.Space.first c.advance.new.space) (g.P.Space.fits c.advance.new.space) c.advance.new.tree.states c.advance.new.tree.nodes.items (is_in c.advance.new.list) c.in-Goal.goal c.args.nodes chosen count;
      space = same_trans g.P.Space.first g.P.Space.goal g.P.Space.count g.P.Space.next_of g.P.Space.fits c.args.space.now c.begin.new.space c.advance.new.space c.begin.ensures.space c.advance.ensures.space;
    }

pub returns-in-Empty : goal.returns-in-Empty
returns-in-Empty g c =
    let chosen = subst (IsChoice (g.P.Space.next_of c.advance.new.space) (g.P.Space.goal c.advance.new.space) (g.P.Space.first c.advance.new.space) (g.P.Space.fits c.advance.new.space) c.advance.new.tree.states c.advance.new.tree.nodes.items (is_in c.advance.new.list)) c.in-Empty.is c.in_ok-goal.ensures.choice in
    let count = subst (IsEndOf (expanded_count c.advance.new.tree.nodes.items) c.args.nodes) c.in-Empty.is c.in_ok-goal.ensures.end in
    record {
      outcome = none_found (g.P.Space.next_of c.advance.new.space) (g.P.Space.goal c.advance.new.space) (g.P.Space.first c.advance.new.space) (g.P.Space.fits c.advance.new.space) c.advance.new.tree.states c.advance.new.tree.nodes.items (is_in c.advance.new.list) c.args.nodes chosen count;
      space = same_trans g.P.Space.first g.P.Space.goal g.P.Space.count g.P.Space.next_of g.P.Space.fits c.args.space.now c.begin.new.space c.advance.new.space c.begin.ensures.space c.advance.ensures.space;
    }

pub returns : goal.returns
returns g c =
    let chosen = subst (IsChoice (g.P.Space.next_of c.advance.new.space) (g.P.Space.goal c.advance.new.space) (g.P.Space.first c.advance.new.space) (g.P.Space.fits c.advance.new.space) c.advance.new.tree.states c.advance.new.tree.nodes.items (is_in c.advance.new.list)) c.in-Open.is c.in_ok-goal.ensures.choice in
    let count = subst (IsEndOf (expanded_count c.advance.new.tree.nodes.items) c.args.nodes) c.in-Open.is c.in_ok-goal.ensures.end in
    record {
      outcome = spent_found (g.P.Space.next_of c.advance.new.space) (g.P.Space.goal c.advance.new.space) (g.P.Space.first c.advance.new.space) (g.P.Space.fits c.advance.new.space) c.advance.new.tree.states c.advance.new.tree.nodes.items (is_in c.advance.new.list) c.in-Open.field-0 c.in-Open.bound c.args.nodes chosen count;
      space = same_trans g.P.Space.first g.P.Space.goal g.P.Space.count g.P.Space.next_of g.P.Space.fits c.args.space.now c.begin.new.space c.advance.new.space c.begin.ensures.space c.advance.ensures.space;
    }
