use Rattle.std.proofs.Common.{◌∙◌, arith}
use Rattle.std.proofs.lemmas.Option.{slice_get_within}
use Rattle.std.proofs.lemmas.Result.{on_ok_weaker}
use Rattle.np_search.specs.Opens.{is_in}
use Rattle.np_search.proofs.Taking.{read_node}
use Rattle.np_search.proofs.Opening.{opened}
use Rattle.np_search.proofs.astar.expand_new.Goals as goal

pub index_mut-requires : goal.index_mut-requires
index_mut-requires g c =
    let within = slice_get_within c.args.tree.now.nodes.items c.args.at c.requires.here.1.here.node c.requires.here.1.here.kept.found in
    omega (arith, within, c.args.tree.now.nodes.ok)

pub expand-requires : goal.expand-requires
expand-requires g c =
    let read = read_node c.args.tree.now.nodes.items c.args.at c.requires.here.1.here.node c.index_mut.result.now c.requires.here.1.here.kept.found c.index_mut.ensures.value in
    let marked = opened (g.P.Space.next_of c.args.space.now) (g.P.Space.goal c.args.space.now) (g.P.Space.first c.args.space.now) (g.P.Space.fits c.args.space.now) c.args.tree.now.states c.args.tree.now.nodes.items (is_in c.args.list.now) c.args.at c.requires.here.0 c.requires.here.1 c.index_mut.result.now read in
    record {
      tree = marked.tree;
      under_way = marked.under_way;
      few = let few = c.requires.few in let count = marked.count in omega (arith, few, count);
    }

pub returns : goal.returns
returns g c =
    let read = read_node c.args.tree.now.nodes.items c.args.at c.requires.here.1.here.node c.index_mut.result.now c.requires.here.1.here.kept.found c.index_mut.ensures.value in
    let marked = opened (g.P.Space.next_of c.args.space.now) (g.P.Space.goal c.args.space.now) (g.P.Space.first c.args.space.now) (g.P.Space.fits c.args.space.now) c.args.tree.now.states c.args.tree.now.nodes.items (is_in c.args.list.now) c.args.at c.requires.here.0 c.requires.here.1 c.index_mut.result.now read in
    record {
      tree = c.expand.ensures.tree;
      count = on_ok_weaker c.expand.result (λ same. same ∙ marked.count) c.expand.ensures.count;
      space = c.expand.ensures.space;
    }
