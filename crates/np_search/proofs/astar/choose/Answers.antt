use Rattle.std.proofs.Common.{◌^◌, Some, sym, subst, ◌∙◌, arith}
use Rattle.std.proofs.lemmas.Option.{same_Some}
use Rattle.np_state.specs.States.{value_of}
use Rattle.np_space.specs.Runs.{IsReachedWithin}
use Rattle.np_search.specs.Opens.{is_in}
use Rattle.np_search.specs.Choices.{IsSettled}
use Rattle.np_search.proofs.Taking.{kept_reached}
use Rattle.np_search.proofs.Choosing.{goal_next, open_next}
use Rattle.np_search.proofs.astar.choose.Goals as goal

pub is_goal-requires : goal.is_goal-requires
is_goal-requires g c =
    let next = subst (IsSettled (g.P.Space.next_of c.settle.new.space) (g.P.Space.goal c.settle.new.space) (g.P.Space.first c.settle.new.space) (g.P.Space.fits c.settle.new.space) c.settle.new.tree.states c.settle.new.tree.nodes.items (is_in c.settle.new.list)) c.in-Some.is c.in_ok-at.ensures.settled in
    let few = c.requires.few in
    let count = c.in_ok-at.ensures.count in
    subst (IsReachedWithin (g.P.Space.next_of c.settle.new.space) (g.P.Space.first c.settle.new.space) (2 ^ 24)) (same_Some _ _ (sym next.here.kept.state ∙ c.get.ensures))
    (kept_reached (g.P.Space.next_of c.settle.new.space) (g.P.Space.goal c.settle.new.space) (g.P.Space.first c.settle.new.space) (g.P.Space.fits c.settle.new.space) c.settle.new.tree.states c.settle.new.tree.nodes.items (is_in c.settle.new.list) (Some c.in-Some.at) next.tree (omega (arith, few, count)) c.in-Some.at next.here.s next.here.node next.here.kept)

pub returns-then-is_goal-clause-choice : goal.returns-then-is_goal-clause-choice
returns-then-is_goal-clause-choice g c =
    let next = subst (IsSettled (g.P.Space.next_of c.settle.new.space) (g.P.Space.goal c.settle.new.space) (g.P.Space.first c.settle.new.space) (g.P.Space.fits c.settle.new.space) c.settle.new.tree.states c.settle.new.tree.nodes.items (is_in c.settle.new.list)) c.in-Some.is c.in_ok-at.ensures.settled in
    goal_next (g.P.Space.next_of c.settle.new.space) (g.P.Space.goal c.settle.new.space) (g.P.Space.first c.settle.new.space) (g.P.Space.fits c.settle.new.space) c.settle.new.tree.states c.settle.new.tree.nodes.items (is_in c.settle.new.list) c.in-Some.at c.in-Some.f next (value_of g.P.C.Cell.value c.get.result.now) c.get.ensures (sym c.is_goal.ensures ∙ c.if-is_goal.true)

pub returns-clause-choice : goal.returns-clause-choice
returns-clause-choice g c =
    let next = subst (IsSettled (g.P.Space.next_of c.settle.new.space) (g.P.Space.goal c.settle.new.space) (g.P.Space.first c.settle.new.space) (g.P.Space.fits c.settle.new.space) c.settle.new.tree.states c.settle.new.tree.nodes.items (is_in c.settle.new.list)) c.in-Some.is c.in_ok-at.ensures.settled in
    open_next (g.P.Space.next_of c.settle.new.space) (g.P.Space.goal c.settle.new.space) (g.P.Space.first c.settle.new.space) (g.P.Space.fits c.settle.new.space) c.settle.new.tree.states c.settle.new.tree.nodes.items (is_in c.settle.new.list) c.in-Some.at c.in-Some.f next (value_of g.P.C.Cell.value c.get.result.now) c.get.ensures (sym c.is_goal.ensures ∙ c.if-is_goal.false)
