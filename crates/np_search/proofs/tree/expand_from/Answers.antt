use Rattle.std.proofs.Common.{refl, ◌∙◌, arith}
use Rattle.np_search.specs.Opens.{is_in}
use Rattle.np_search.specs.Weights.{weight}
use Rattle.np_search.proofs.Spaces.{same_refl, same_trans, known_now, no_more_trans}
use Rattle.np_search.proofs.Closing.{tree_closed}
use Rattle.np_search.proofs.tree.expand_from.Goals as goal

pub loop-step-init : goal.loop-step-init
loop-step-init g c = record {
  tree = c.requires.tree;
  under_way = c.requires.under_way;
  count = refl;
  less = λ known. record { same = refl; less = omega arith };
  space = same_refl g.P.Space.first g.P.Space.goal g.P.Space.count g.P.Space.next_of g.P.Space.fits c.args.space.now;
}

pub take_step-requires : goal.take_step-requires
take_step-requires g c = record {
  tree = c.loop-step.invariant.tree;
  under_way = c.loop-step.invariant.under_way;
  few = let few = c.requires.few in let count = c.loop-step.invariant.count in omega (arith, few, count);
  step = let count = c.loop-step.invariant.space.same_count in let end = c.steps-step-end.ensures in let below = c.loop-step-test.true in omega (arith, count, end, below);
}

pub loop-step-preserved : goal.loop-step-preserved
loop-step-preserved g c =
    let inv = c.loop-step.invariant in
    let step = c.in_ok-take_step.ensures in
    record {
      tree = step.tree;
      under_way = step.under_way;
      count = step.count ∙ inv.count;
      less = λ known.
          let so_far = inv.less known in
          let now = known_now g.P.Space.first g.P.Space.goal g.P.Space.count g.P.Space.next_of g.P.Space.fits c.args.space.now c.loop-step.space inv.space c.args.tree.now.states c.loop-step.tree.states c.args.at (weight (is_in c.args.list.now) c.args.tree.now.nodes.items) (weight (is_in c.loop-step.list) c.loop-step.tree.nodes.items) so_far known in
          no_more_trans c.args.tree.now.states c.loop-step.tree.states c.take_step.new.tree.states (weight (is_in c.args.list.now) c.args.tree.now.nodes.items) (weight (is_in c.loop-step.list) c.loop-step.tree.nodes.items) (weight (is_in c.take_step.new.list) c.take_step.new.tree.nodes.items) so_far (step.less now);
      space = same_trans g.P.Space.first g.P.Space.goal g.P.Space.count g.P.Space.next_of g.P.Space.fits c.args.space.now c.loop-step.space c.take_step.new.space inv.space c.take_step.ensures.space;
    }

pub returns-in_err-take_step-clause-space : goal.returns-in_err-take_step-clause-space
returns-in_err-take_step-clause-space g c = same_trans g.P.Space.first g.P.Space.goal g.P.Space.count g.P.Space.next_of g.P.Space.fits c.args.space.now c.loop-step.space c.take_step.new.space c.loop-step.invariant.space c.take_step.ensures.space

pub returns : goal.returns
returns g c =
    let inv = c.loop-step.invariant in
    record {
      tree = tree_closed (g.P.Space.next_of c.loop-step.space) (g.P.Space.goal c.loop-step.space) (g.P.Space.first c.loop-step.space) (g.P.Space.fits c.loop-step.space) c.loop-step.tree.states c.loop-step.tree.nodes.items (is_in c.loop-step.list) c.args.at c.loop-step.step inv.tree inv.under_way
          (λ k past.
          let count = inv.space.same_count in
          let end = c.steps-step-end.ensures in
          let over = c.loop-step-test.false in
          g.met.P.Space.bounded c.loop-step.space inv.under_way.s k (omega (arith, past, count, end, over)));
      count = inv.count;
      less = inv.less;
      space = inv.space;
    }
