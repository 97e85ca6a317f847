use Rattle.std.proofs.Common.{◌≡◌, ℕ, List, Some, length, get_or, set, slice_get, refl, sym, ap, subst, ◌∙◌, arith}
use Rattle.std.proofs.lemmas.List.{set-get_or}
use Rattle.std.proofs.lemmas.Option.{slice_get_read, slice_get_within, same_Some}
use Rattle.std.proofs.lemmas.Result.{on_ok_weaker}
use Rattle.np_search.specs.declared.tree.Node.{Node}
use Rattle.np_search.specs.Changes.{IsNarrow, IsNarrowAt}
use Rattle.np_search.proofs.tree.lower.Goals as goal

-- the element that is read
read_at : (nodes : List Node) (at : ℕ) (node : Node) → IsNarrowAt nodes at → node ≡ get_or nodes at node → slice_get nodes at ≡ Some node
read_at nodes at node n e = slice_get_read nodes (length nodes) at node refl (slice_get_within nodes at n.node n.found) e

-- it has the numbers of the one that is known
narrow : (nodes : List Node) (at : ℕ) (node : Node) → IsNarrowAt nodes at → node ≡ get_or nodes at node → IsNarrow node
narrow nodes at node n e = subst IsNarrow (same_Some n.node node (sym n.found ∙ read_at nodes at node n e)) n.narrow

pub returns-then-node-cost : goal.returns-then-node-cost
returns-then-node-cost c =
    let node = c.index_mut-node.result.now in
    let read = c.index_mut-node.ensures.value in
    record {
      node = node;
      found = read_at c.args.nodes.now.items c.args.at node c.requires read;
      dear = λ h. record { same = ap (set c.args.nodes.now.items c.args.at) read ∙ set-get_or c.args.nodes.now.items c.args.at node; same_list = record { same = λ n k. refl } };
      cheap = λ h. absurd (let d = c.if-node-cost.true in omega (arith, d, h));
    }

pub take_out-requires : goal.take_out-requires
take_out-requires c = narrow c.args.nodes.now.items c.args.at c.index_mut-node.result.now c.requires c.index_mut-node.ensures.value

pub put-requires : goal.put-requires
put-requires c =
    let old = narrow c.args.nodes.now.items c.args.at c.index_mut-node.result.now c.requires c.index_mut-node.ensures.value in
    record { small = old.small; cost = let less = c.if-node-cost.false in let bound = old.cost in omega (arith, less, bound) }

pub returns : goal.returns
returns c =
    let node = c.index_mut-node.result.now in
    on_ok_weaker c.put.result (λ put. record {
      node = node;
      found = read_at c.args.nodes.now.items c.args.at node c.requires c.index_mut-node.ensures.value;
      dear = λ h. absurd (let d = c.if-node-cost.false in omega (arith, d, h));
      cheap = λ h. record { changed = refl; between = _; taken = c.take_out.ensures; put = put };
    }) c.put.ensures
