use Rattle.std.proofs.Common.{◌≡◌, ◌<◌, true, sym, ◌∙◌, ap, subst, length, All, arith}
use Rattle.np_flat.specs.declared.parts.Parts.{Parts}
use Rattle.np_flat.specs.States.{has}
use Rattle.np_relax.proofs.Works.{begun, started, gone_on, ended, popped_within, popped_less, none_left}
use Rattle.np_relax.proofs.Watches.{watching_first}
use Rattle.np_relax.proofs.reached.reach.Goals as goal

pub loop-step-init : goal.loop-step-init
loop-step-init c = record {
  going = begun c.args.flat.now c.args.state.now c.args.removed.now c.in_ok-can.can.items c.new-work.result.items c.in_ok-can.ensures.count c.in_ok-can.ensures.held c.new-work.ensures.items;
  watched = watching_first c.args.flat.now c.in_ok-can.can.items c.in_ok-watched.watched.items (c.in_ok-watched.ensures.count ∙ c.len-count.ensures ∙ ap (λ (p : Parts). length p.steps) c.parts.ensures.parts) c.in_ok-watched.ensures.first;
}

pub loop-step-preserved : goal.loop-step-preserved
loop-step-preserved c = record {
  going = started c.args.flat.now c.args.state.now c.args.removed.now c.loop-step.can.items c.loop-step.work.items c.loop-step.step (c.fire.new.can.items, c.fire.new.work.items) c.loop-step.invariant.going c.in_ok-fire.ensures.turned;
  watched = c.in_ok-fire.ensures.watched;
}

pub of-requires : goal.of-requires
of-requires c =
    subst (λ k. c.in-Some.subgoal < k) (sym c.requires.needing.count)
    (popped_within c.args.flat.now c.args.state.now c.args.removed.now c.loop-subgoal.can.items c.loop-subgoal.work.items c.pop.new.self.items c.in-Some.subgoal c.len-count.result c.loop-subgoal.invariant.going c.in-Some.ensures.items)

pub handle-requires-clause-steps : goal.handle-requires-clause-steps
handle-requires-clause-steps c = subst (All (λ n. n < length c.args.flat.now.steps)) (sym c.of.ensures) (c.requires.needing.within c.in-Some.subgoal)

pub loop-subgoal-smaller : goal.loop-subgoal-smaller
loop-subgoal-smaller c = popped_less c.args.flat.now c.args.removed.now c.loop-subgoal.can.items c.loop-subgoal.work.items c.pop.new.self.items c.of.result.now c.in-Some.subgoal (c.handle.new.can.items, c.handle.new.work.items) c.loop-subgoal.invariant.going.count c.in-Some.ensures.items c.in_ok-handle.ensures.turned

pub loop-subgoal-preserved : goal.loop-subgoal-preserved
loop-subgoal-preserved c = record {
  going = gone_on c.args.flat.now c.args.state.now c.args.removed.now c.loop-subgoal.can.items c.loop-subgoal.work.items c.pop.new.self.items c.of.result.now c.in-Some.subgoal c.len-count.result (c.handle.new.can.items, c.handle.new.work.items)
      (λ m lt needed. subst (λ xs. has xs m ≡ true) (sym c.of.ensures) (c.requires.needing.has_each m c.in-Some.subgoal (subst (λ k. m < k) (c.len-count.ensures ∙ ap (λ (p : Parts). length p.steps) c.parts.ensures.parts) lt) needed))
      c.loop-subgoal.invariant.going c.in-Some.ensures.items c.in_ok-handle.ensures.turned;
  watched = c.in_ok-handle.ensures.watched;
}

pub returns-clause-least : goal.returns-clause-least
returns-clause-least c =
    let zero : length c.loop-subgoal.work.items ≡ 0 = omega (arith, c.in_default.ensures.cases.0) in
    ended c.args.flat.now c.args.state.now c.args.removed.now c.loop-subgoal.can.items c.loop-subgoal.work.items c.len-count.result (c.len-count.ensures ∙ ap (λ (p : Parts). length p.steps) c.parts.ensures.parts) (none_left c.loop-subgoal.work.items zero) c.loop-subgoal.invariant.going
