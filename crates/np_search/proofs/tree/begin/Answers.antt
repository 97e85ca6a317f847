use Rattle.std.proofs.Common.{◌^◌, List, subst, sym, ◌∙◌, arith}
use Rattle.np_state.specs.StateValues.{StateValue}
use Rattle.np_state.specs.States.{value_of}
use Rattle.np_state.specs.Interning.{IsNumberOf}
use Rattle.np_space.specs.Runs.{IsReachedWithin}
use Rattle.np_search.specs.declared.tree.Node.{Node}
use Rattle.np_search.specs.Opens.{is_in}
use Rattle.np_search.specs.Changes.{IsPushed}
use Rattle.np_search.proofs.Runs.{reached_first}
use Rattle.np_search.proofs.Beginning.{tree_begun, none_expanded}
use Rattle.np_search.proofs.tree.begin.Goals as goal

pub found-requires : goal.found-requires
found-requires g c =
    let next = g.P.Space.next_of c.args.space.now in
    let first = g.P.Space.first c.args.space.now in
    subst (IsReachedWithin next first (2 ^ 24)) (sym c.in_ok-start.ensures) (reached_first next first (2 ^ 24))

pub add-requires : goal.add-requires
add-requires g c =
    let found = c.in_ok-node.ensures.node in
    let cost = found.cost_is in
    record { small = found.small; cost = omega (arith, cost) }

pub returns : goal.returns
returns g c =
    let said = value_of g.P.C.Cell.value c.in_ok-start.start in
    let number = subst (λ (ss : List StateValue). IsNumberOf ss c.intern.new.self said c.in_ok-intern.field-0.0 c.in_ok-intern.field-0.1) c.new.ensures c.in_ok-intern.ensures.ok in
    let pushed = subst (λ (ns : List Node). IsPushed ns c.add.new.nodes.items (is_in c.args.list.now) (is_in c.add.new.list) c.in_ok-node.node) c.new-2.ensures.items c.in_ok-add.ensures in
    let found = c.in_ok-node.ensures.node in
    record {
      tree = tree_begun (g.P.Space.next_of c.found.new.space) (g.P.Space.goal c.found.new.space) (g.P.Space.first c.found.new.space) said (g.P.Space.fits c.found.new.space) (is_in c.args.list.now) (is_in c.add.new.list) c.requires c.intern.new.self c.in_ok-intern.field-0.0 c.in_ok-intern.field-0.1 number c.add.new.nodes.items c.in_ok-node.node pushed found (c.in_ok-start.ensures ∙ sym c.found.ensures.space.same_first);
      count = none_expanded (is_in c.args.list.now) (is_in c.add.new.list) c.add.new.nodes.items c.in_ok-node.node pushed found.fresh;
      space = c.found.ensures.space;
    }
