use Rattle.std.proofs.Common.{◌<◌, ap, sym, refl, ◌∙◌, arith}
use Rattle.std.proofs.lemmas.Option.{slice_get_within}
use Rattle.np_search.specs.declared.tree.Node.{Node}
use Rattle.np_search.specs.Opens.{is_in}
use Rattle.np_search.specs.Weights.{weight}
use Rattle.np_search.proofs.Spaces.{same_refl, same_trans}
use Rattle.np_search.proofs.Taking.{read_node}
use Rattle.np_search.proofs.Settling.{settled_empty, tree_popped, popped_under_way, popped_known, popped_weight, popped_next, priced, key_open}
use Rattle.np_search.proofs.astar.settle.Goals as goal

pub loop-at-init : goal.loop-at-init
loop-at-init g c = record { tree = c.requires.tree; count = refl; space = same_refl g.P.Space.first g.P.Space.goal g.P.Space.count g.P.Space.next_of g.P.Space.fits c.args.space.now }

pub returns-in_default-clause-settled : goal.returns-in_default-clause-settled
returns-in_default-clause-settled g c = settled_empty (g.P.Space.next_of c.loop-at.space) (g.P.Space.goal c.loop-at.space) (g.P.Space.first c.loop-at.space) (g.P.Space.fits c.loop-at.space) c.loop-at.tree.states c.loop-at.tree.nodes.items (is_in c.loop-at.list) c.loop-at.invariant.tree (is_in c.pop.new.self) c.in_default.ensures.unchanged c.in_default.ensures.empty

pub index-requires : goal.index-requires
index-requires g c =
    let only = c.loop-at.invariant.tree.listed.only c.in-Some.at c.in-Some.key c.in-Some.ensures.there in
    let within = slice_get_within c.loop-at.tree.nodes.items c.in-Some.at only.0 only.1 in
    omega (arith, within, c.loop-at.tree.nodes.ok)

pub overflow_sub-result : goal.overflow_sub-result
overflow_sub-result g c =
    let only = c.loop-at.invariant.tree.listed.only c.in-Some.at c.in-Some.key c.in-Some.ensures.there in
    let read = read_node c.loop-at.tree.nodes.items c.in-Some.at only.0 c.index.result.now only.1 c.index.ensures in
    let fresh = ap (λ (n : Node). n.expanded) (sym read) ∙ c.if-not-index.true in
    let first = (priced only.0.cost only.0.judged.bound c.in-Some.key (sym (key_open only.0 fresh) ∙ only.2)).first in
    omega (arith, first)

pub returns-then-not-index-clause-settled : goal.returns-then-not-index-clause-settled
returns-then-not-index-clause-settled g c =
    let only = c.loop-at.invariant.tree.listed.only c.in-Some.at c.in-Some.key c.in-Some.ensures.there in
    let read = read_node c.loop-at.tree.nodes.items c.in-Some.at only.0 c.index.result.now only.1 c.index.ensures in
    let fresh = ap (λ (n : Node). n.expanded) (sym read) ∙ c.if-not-index.true in
    popped_next (g.P.Space.next_of c.loop-at.space) (g.P.Space.goal c.loop-at.space) (g.P.Space.first c.loop-at.space) (g.P.Space.fits c.loop-at.space) c.loop-at.tree.states c.loop-at.tree.nodes.items (is_in c.loop-at.list) c.loop-at.invariant.tree (is_in c.pop.new.self) c.in-Some.at c.in-Some.key c.in-Some.ensures.taken c.in-Some.ensures.there fresh c.in-Some.ensures.least

pub expand-requires-clause-tree : goal.expand-requires-clause-tree
expand-requires-clause-tree g c = tree_popped (g.P.Space.next_of c.loop-at.space) (g.P.Space.goal c.loop-at.space) (g.P.Space.first c.loop-at.space) (g.P.Space.fits c.loop-at.space) c.loop-at.tree.states c.loop-at.tree.nodes.items (is_in c.loop-at.list) c.loop-at.invariant.tree (is_in c.pop.new.self) c.in-Some.at c.in-Some.key c.in-Some.ensures.taken c.in-Some.ensures.there

pub expand-requires-clause-under_way : goal.expand-requires-clause-under_way
expand-requires-clause-under_way g c =
    let only = c.loop-at.invariant.tree.listed.only c.in-Some.at c.in-Some.key c.in-Some.ensures.there in
    let read = read_node c.loop-at.tree.nodes.items c.in-Some.at only.0 c.index.result.now only.1 c.index.ensures in
    let expanded = ap (λ (n : Node). n.expanded) (sym read) ∙ c.if-not-index.false in
    popped_under_way (g.P.Space.next_of c.loop-at.space) (g.P.Space.goal c.loop-at.space) (g.P.Space.first c.loop-at.space) (g.P.Space.fits c.loop-at.space) c.loop-at.tree.states c.loop-at.tree.nodes.items (is_in c.loop-at.list) c.loop-at.invariant.tree (is_in c.pop.new.self) c.in-Some.at c.in-Some.key c.in-Some.ensures.taken c.in-Some.ensures.there expanded

pub loop-at-preserved : goal.loop-at-preserved
loop-at-preserved g c =
    let inv = c.loop-at.invariant in
    record {
      tree = c.in_ok-expand.ensures.tree;
      count = c.in_ok-expand.ensures.count ∙ inv.count;
      space = same_trans g.P.Space.first g.P.Space.goal g.P.Space.count g.P.Space.next_of g.P.Space.fits c.args.space.now c.loop-at.space c.expand.new.space inv.space c.expand.ensures.space;
    }

pub loop-at-smaller : goal.loop-at-smaller
loop-at-smaller g c =
    let only = c.loop-at.invariant.tree.listed.only c.in-Some.at c.in-Some.key c.in-Some.ensures.there in
    let read = read_node c.loop-at.tree.nodes.items c.in-Some.at only.0 c.index.result.now only.1 c.index.ensures in
    let expanded = ap (λ (n : Node). n.expanded) (sym read) ∙ c.if-not-index.false in
    let known = popped_known (g.P.Space.next_of c.loop-at.space) (g.P.Space.goal c.loop-at.space) (g.P.Space.first c.loop-at.space) (g.P.Space.fits c.loop-at.space) c.loop-at.tree.states c.loop-at.tree.nodes.items (is_in c.loop-at.list) c.loop-at.invariant.tree (is_in c.pop.new.self) c.in-Some.at c.in-Some.key c.in-Some.ensures.taken c.in-Some.ensures.there expanded in
    let taken = popped_weight (g.P.Space.next_of c.loop-at.space) (g.P.Space.goal c.loop-at.space) (g.P.Space.first c.loop-at.space) (g.P.Space.fits c.loop-at.space) c.loop-at.tree.states c.loop-at.tree.nodes.items (is_in c.loop-at.list) c.loop-at.invariant.tree (is_in c.pop.new.self) c.in-Some.at c.in-Some.key c.in-Some.ensures.taken c.in-Some.ensures.there expanded in
    let less = (c.in_ok-expand.ensures.less known).less in
    let all : weight (is_in c.expand.new.list) c.expand.new.tree.nodes.items < weight (is_in c.loop-at.list) c.loop-at.tree.nodes.items = omega (arith, taken, less) in
    all

pub returns-in_err-expand-clause-space : goal.returns-in_err-expand-clause-space
returns-in_err-expand-clause-space g c = same_trans g.P.Space.first g.P.Space.goal g.P.Space.count g.P.Space.next_of g.P.Space.fits c.args.space.now c.loop-at.space c.expand.new.space c.loop-at.invariant.space c.expand.ensures.space
