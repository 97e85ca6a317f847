use Rattle.std.proofs.Common.{◌∙◌, ap, length, get_or}
use Rattle.np_relax.proofs.Works.{fired_grown, handle_more}
use Rattle.np_relax.proofs.reached.handle.Goals as goal

pub loop-step-preserved : goal.loop-step-preserved
loop-step-preserved c = record {
  rest = c.loop-step.invariant.rest ∙ handle_more c.args.flat.now c.args.removed.now c.args.steps.now c.loop-step.step-index 0 c.loop-step.can.items c.loop-step.work.items (c.fire.new.can.items, c.fire.new.work.items) c.loop-step-test.true c.in_ok-fire.ensures.turned;
  count = ap (λ r. length r.0) c.in_ok-fire.ensures.turned ∙ (fired_grown c.args.flat.now c.args.removed.now (get_or c.args.steps.now c.loop-step.step-index 0) c.loop-step.can.items c.loop-step.work.items c.loop-step.invariant.count).count ∙ c.loop-step.invariant.count;
  watched = c.in_ok-fire.ensures.watched;
}
