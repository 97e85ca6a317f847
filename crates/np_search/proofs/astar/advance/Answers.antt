use Rattle.std.proofs.Common.{subst, arith}
use Rattle.np_search.specs.Opens.{is_in}
use Rattle.np_search.specs.Choices.{IsChoice}
use Rattle.np_search.proofs.Spaces.{same_refl, same_trans}
use Rattle.np_search.proofs.astar.advance.Goals as goal

pub loop-init : goal.loop-init
loop-init g c = record { tree = c.requires.tree; count = c.requires.none; space = same_refl g.P.Space.first g.P.Space.goal g.P.Space.count g.P.Space.next_of g.P.Space.fits c.args.space.now }

pub choose-requires : goal.choose-requires
choose-requires g c = record {
  tree = c.loop.invariant.tree;
  few = let few = c.requires.few in let count = c.loop.invariant.count in let below = c.loop-test.true in omega (arith, few, count, below);
}

pub expand_new-requires : goal.expand_new-requires
expand_new-requires g c = record {
  here = (c.in-Open.field-1, subst (IsChoice (g.P.Space.next_of c.choose.new.space) (g.P.Space.goal c.choose.new.space) (g.P.Space.first c.choose.new.space) (g.P.Space.fits c.choose.new.space) c.choose.new.tree.states c.choose.new.tree.nodes.items (is_in c.choose.new.list)) c.in-Open.is c.in_ok-end.ensures.choice);
  few =
      let few = c.requires.few in
      let so_far = c.loop.invariant.count in
      let below = c.loop-test.true in
      let count = c.in_ok-end.ensures.count in
      omega (arith, few, so_far, below, count);
}

pub loop-preserved : goal.loop-preserved
loop-preserved g c =
    let so_far = c.loop.invariant.count in
    let chosen = c.in_ok-end.ensures.count in
    let count = c.in_ok-expand_new-in-Open.ensures.count in
    let begun = same_trans g.P.Space.first g.P.Space.goal g.P.Space.count g.P.Space.next_of g.P.Space.fits c.args.space.now c.loop.space c.choose.new.space c.loop.invariant.space c.choose.ensures.space in
    record {
      tree = c.in_ok-expand_new-in-Open.ensures.tree;
      count = omega (arith, so_far, chosen, count);
      space = same_trans g.P.Space.first g.P.Space.goal g.P.Space.count g.P.Space.next_of g.P.Space.fits c.args.space.now c.choose.new.space c.expand_new.new.space begun c.expand_new.ensures.space;
    }
