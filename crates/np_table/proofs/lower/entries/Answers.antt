use Rattle.std.proofs.Common.{◌≡◌, ◌<◌, true, refl, sym, ◌∙◌, ap, subst, length}
use Rattle.np_flat.specs.declared.parts.Parts.{Parts}
use Rattle.np_flat.specs.States.{has}
use Rattle.np_relax.specs.Closed.{on}
use Rattle.np_table.proofs.Falls.{fell_begin, fell_first, fell_on, fallen_greatest}
use Rattle.np_table.proofs.lower.entries.Goals as goal

pub loop-step-init : goal.loop-step-init
loop-step-init c = record {
  falling = fell_begin c.args.flat.now c.args.units.now c.args.state.now (on c.args.can.now) c.requires.can c.requires.units c.in_ok-entries.entries.items c.in_ok-waiting.waiting.marks.items c.in_ok-entries.ensures.count c.in_ok-entries.ensures.begun (c.in_ok-waiting.ensures.count ∙ c.len.ensures ∙ ap (λ (p : Parts). length p.subgoals) c.parts.ensures.parts);
  waiting = c.in_ok-waiting.ensures.waiting;
}

pub loop-step-preserved : goal.loop-step-preserved
loop-step-preserved c = record {
  falling = fell_first c.args.flat.now c.args.units.now c.args.state.now (on c.args.can.now) c.requires.can c.requires.units c.loop-step.entries.items c.loop-step.waiting.marks.items c.loop-step.step (c.settle.new.entries.items, c.settle.new.waiting.marks.items) c.loop-step.invariant.falling c.in_ok-settle.ensures.settled;
  waiting = c.in_ok-settle.ensures.waiting;
}

pub loop-subgoal-preserved : goal.loop-subgoal-preserved
loop-subgoal-preserved c = record {
  falling = fell_on c.args.flat.now c.args.units.now c.args.state.now (on c.args.can.now) c.requires.can c.requires.units c.loop-subgoal.entries.items c.loop-subgoal.waiting.marks.items c.take.new.self.marks.items c.of.result.now c.in-Some.subgoal c.len-count.result (c.settle_all.new.entries.items, c.settle_all.new.waiting.marks.items) c.loop-subgoal.invariant.falling c.in-Some.ensures.marks
      (λ m lt needed. subst (λ xs. has xs m ≡ true) (sym c.of.ensures) (c.requires.needing.has_each m c.in-Some.subgoal (subst (λ k. m < k) (c.len-count.ensures ∙ ap (λ (p : Parts). length p.steps) c.parts-2.ensures.parts) lt) needed))
      c.in_ok-settle_all.ensures.settled;
  waiting = c.in_ok-settle_all.ensures.waiting;
}

pub returns-clause-greatest : goal.returns-clause-greatest
returns-clause-greatest c =
    fallen_greatest c.args.flat.now c.args.units.now c.args.state.now (on c.args.can.now) c.requires.can c.requires.units c.loop-subgoal.entries.items c.loop-subgoal.waiting.marks.items c.len-count.result (c.in_default.ensures.none refl) (c.len-count.ensures ∙ ap (λ (p : Parts). length p.steps) c.parts-2.ensures.parts) c.loop-subgoal.invariant.falling
