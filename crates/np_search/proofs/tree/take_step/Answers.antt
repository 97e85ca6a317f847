use Rattle.std.proofs.Common.{◌≡◌, ◌<◌, ◌^◌, Some, sym, ap, subst, ◌∙◌, arith}
use Rattle.std.proofs.lemmas.Option.{same_Some, slice_get_within}
use Rattle.std.proofs.lemmas.Result.{on_ok_weaker}
use Rattle.np_state.specs.States.{value_of}
use Rattle.np_space.specs.Runs.{IsReachedWithin, HasSmallCost}
use Rattle.np_search.specs.declared.tree.Node.{Node}
use Rattle.np_search.specs.Opens.{is_in}
use Rattle.np_search.proofs.Taking.{step_goes, read_node, kept_reached, after_reached, after_cheap, number_narrow, known_there, new_added, added_is, taken_found, taken_added}
use Rattle.np_search.proofs.Spaces.{known_kept, same_refl}
use Rattle.np_search.proofs.tree.take_step.Goals as goal

pub next-requires-clause-reached : goal.next-requires-clause-reached
next-requires-clause-reached g c =
    let t = c.requires.tree in
    let u = c.requires.under_way in
    subst (IsReachedWithin (g.P.Space.next_of c.args.space.now) (g.P.Space.first c.args.space.now) (2 ^ 24)) (same_Some _ _ (sym u.kept.state ∙ c.get.ensures))
    (kept_reached (g.P.Space.next_of c.args.space.now) (g.P.Space.goal c.args.space.now) (g.P.Space.first c.args.space.now) (g.P.Space.fits c.args.space.now) c.args.tree.now.states c.args.tree.now.nodes.items (is_in c.args.list.now) (Some c.args.at) t c.requires.few c.args.at u.s u.node u.kept)

pub index-requires : goal.index-requires
index-requires g c =
    let h = slice_get_within c.args.tree.now.nodes.items c.args.at c.requires.under_way.node c.requires.under_way.kept.found in
    omega (arith, h, c.args.tree.now.nodes.ok)

pub overflow_add-cost : goal.overflow_add-cost
overflow_add-cost g c =
    let t = c.requires.tree in
    let u = c.requires.under_way in
    let small : c.in-Some.cost < 2 ^ 32 = subst HasSmallCost c.in-Some.is c.in_ok-state.ensures.cost in
    let read : c.index.result.now ≡ u.node = read_node c.args.tree.now.nodes.items c.args.at u.node c.index.result.now u.kept.found c.index.ensures in
    let cheap = after_cheap (g.P.Space.next_of c.args.space.now) (g.P.Space.goal c.args.space.now) (g.P.Space.first c.args.space.now) (g.P.Space.fits c.args.space.now) c.args.tree.now.states c.args.tree.now.nodes.items (is_in c.args.list.now) (Some c.args.at) t c.requires.few c.args.at u.s u.node c.in-Some.cost u.kept u.expanded small in
    let same : c.index.result.now.cost ≡ u.node.cost = ap (λ (n : Node). n.cost) read in
    omega (arith, cheap, same)

pub lower-requires : goal.lower-requires
lower-requires g c =
    let found = known_there c.args.tree.now.states c.intern.new.self (value_of g.P.C.Cell.value c.in-Some.state) c.in_ok-number.number c.in_ok-number.is_new c.if-not-is_new.true c.in_ok-number.ensures.ok in
    number_narrow (g.P.Space.next_of c.args.space.now) (g.P.Space.goal c.args.space.now) (g.P.Space.first c.args.space.now) (g.P.Space.fits c.args.space.now) c.args.tree.now.states c.args.tree.now.nodes.items (is_in c.args.list.now) (Some c.args.at) c.requires.tree c.requires.few c.in_ok-number.number _ found.there

pub returns-then-not-is_new : goal.returns-then-not-is_new
returns-then-not-is_new g c =
    let t = c.requires.tree in
    let u = c.requires.under_way in
    let after = value_of g.P.C.Cell.value c.in-Some.state in
    let goes = step_goes g.P.C.Cell.value (g.P.Space.next_of c.args.space.now) u.s _ c.args.step c.in_ok-state.field-0 c.in-Some.state c.in-Some.cost (same_Some _ _ (sym c.get.ensures ∙ u.kept.state)) c.in_ok-state.ensures.successor c.in-Some.is in
    let read = read_node c.args.tree.now.nodes.items c.args.at u.node c.index.result.now u.kept.found c.index.ensures in
    let found = known_there c.args.tree.now.states c.intern.new.self after c.in_ok-number.number c.in_ok-number.is_new c.if-not-is_new.true c.in_ok-number.ensures.ok in
    let taken = on_ok_weaker c.lower.result (λ lowered. taken_found (g.P.Space.next_of c.args.space.now) (g.P.Space.goal c.args.space.now) (g.P.Space.first c.args.space.now) (g.P.Space.fits c.args.space.now) c.args.tree.now.states c.intern.new.self c.args.tree.now.nodes.items c.lower.new.nodes.items (is_in c.args.list.now) (is_in c.lower.new.list) c.args.at c.args.step t u after c.in-Some.cost goes c.index.result.now read c.in_ok-number.number found lowered) c.lower.ensures in
    record {
      tree = on_ok_weaker c.lower.result (λ k. k.tree) taken;
      under_way = on_ok_weaker c.lower.result (λ k. k.under_way) taken;
      count = on_ok_weaker c.lower.result (λ k. k.count) taken;
      less = on_ok_weaker c.lower.result (λ k. k.less) taken;
      space = same_refl g.P.Space.first g.P.Space.goal g.P.Space.count g.P.Space.next_of g.P.Space.fits c.args.space.now;
    }

pub found-requires : goal.found-requires
found-requires g c =
    let t = c.requires.tree in
    let u = c.requires.under_way in
    let after = value_of g.P.C.Cell.value c.in-Some.state in
    let goes = step_goes g.P.C.Cell.value (g.P.Space.next_of c.args.space.now) u.s _ c.args.step c.in_ok-state.field-0 c.in-Some.state c.in-Some.cost (same_Some _ _ (sym c.get.ensures ∙ u.kept.state)) c.in_ok-state.ensures.successor c.in-Some.is in
    let added = new_added c.args.tree.now.states c.intern.new.self after c.in_ok-number.number c.in_ok-number.is_new c.if-not-is_new.false c.in_ok-number.ensures.ok in
    subst (IsReachedWithin (g.P.Space.next_of c.args.space.now) (g.P.Space.first c.args.space.now) (2 ^ 24)) (added_is c.args.tree.now.states c.intern.new.self after _ c.in_ok-number.number added c.get-2.ensures)
    (after_reached (g.P.Space.next_of c.args.space.now) (g.P.Space.goal c.args.space.now) (g.P.Space.first c.args.space.now) (g.P.Space.fits c.args.space.now) c.args.tree.now.states c.args.tree.now.nodes.items (is_in c.args.list.now) (Some c.args.at) t c.requires.few c.args.at u.s u.node c.args.step after c.in-Some.cost u.kept u.expanded goes)

pub add-requires : goal.add-requires
add-requires g c =
    let t = c.requires.tree in
    let u = c.requires.under_way in
    let small : c.in-Some.cost < 2 ^ 32 = subst HasSmallCost c.in-Some.is c.in_ok-state.ensures.cost in
    let read : c.index.result.now ≡ u.node = read_node c.args.tree.now.nodes.items c.args.at u.node c.index.result.now u.kept.found c.index.ensures in
    let cheap = after_cheap (g.P.Space.next_of c.args.space.now) (g.P.Space.goal c.args.space.now) (g.P.Space.first c.args.space.now) (g.P.Space.fits c.args.space.now) c.args.tree.now.states c.args.tree.now.nodes.items (is_in c.args.list.now) (Some c.args.at) t c.requires.few c.args.at u.s u.node c.in-Some.cost u.kept u.expanded small in
    let same : c.index.result.now.cost ≡ u.node.cost = ap (λ (n : Node). n.cost) read in
    let found = c.in_ok-node.ensures.node in
    let cost = found.cost_is in
    record { small = found.small; cost = omega (arith, cheap, same, cost) }

pub returns : goal.returns
returns g c =
    let t = c.requires.tree in
    let u = c.requires.under_way in
    let small : c.in-Some.cost < 2 ^ 32 = subst HasSmallCost c.in-Some.is c.in_ok-state.ensures.cost in
    let after = value_of g.P.C.Cell.value c.in-Some.state in
    let said = value_of g.P.C.Cell.value c.get-2.result.now in
    let goes = step_goes g.P.C.Cell.value (g.P.Space.next_of c.args.space.now) u.s _ c.args.step c.in_ok-state.field-0 c.in-Some.state c.in-Some.cost (same_Some _ _ (sym c.get.ensures ∙ u.kept.state)) c.in_ok-state.ensures.successor c.in-Some.is in
    let read = read_node c.args.tree.now.nodes.items c.args.at u.node c.index.result.now u.kept.found c.index.ensures in
    let added = new_added c.args.tree.now.states c.intern.new.self after c.in_ok-number.number c.in_ok-number.is_new c.if-not-is_new.false c.in_ok-number.ensures.ok in
    let judged = added_is c.args.tree.now.states c.intern.new.self after said c.in_ok-number.number added c.get-2.ensures in
    let taken = on_ok_weaker c.add.result (λ pushed. taken_added g.P.Space.first g.P.Space.goal g.P.Space.count g.P.Space.next_of g.P.Space.fits c.args.space.now c.found.new.space c.found.ensures.space c.args.tree.now.states c.intern.new.self c.args.tree.now.nodes.items c.add.new.nodes.items (is_in c.args.list.now) (is_in c.add.new.list) c.args.at c.args.step t u after said c.in-Some.cost goes small c.index.result.now read c.in_ok-number.number added judged c.in_ok-node.node c.in_ok-node.ensures.node pushed) c.add.ensures in
    record {
      tree = on_ok_weaker c.add.result (λ k. k.tree) taken;
      under_way = on_ok_weaker c.add.result (λ k. k.under_way) taken;
      count = on_ok_weaker c.add.result (λ k. k.count) taken;
      less = on_ok_weaker c.add.result (λ k. λ known. k.less (known_kept g.P.Space.first g.P.Space.goal g.P.Space.count g.P.Space.next_of g.P.Space.fits c.args.space.now c.found.new.space c.found.ensures.space c.args.tree.now.states c.args.at known)) taken;
      space = c.found.ensures.space;
    }
