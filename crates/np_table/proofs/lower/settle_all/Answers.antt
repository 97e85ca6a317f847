use Rattle.std.proofs.Common.{◌∙◌, ap, length, get_or}
use Rattle.np_table.proofs.Falls.{settled_fallen, settle_more, less_then}
use Rattle.np_table.proofs.lower.settle_all.Goals as goal

pub loop-step-preserved : goal.loop-step-preserved
loop-step-preserved c =
    let fallen = settled_fallen c.args.flat.now c.args.units.now (get_or c.args.steps.now c.loop-step.step-index 0) c.loop-step.entries.items c.loop-step.waiting.marks.items c.loop-step.invariant.count c.loop-step.invariant.marks in
    record {
      rest = c.loop-step.invariant.rest ∙ settle_more c.args.flat.now c.args.units.now c.args.steps.now c.loop-step.step-index 0 c.loop-step.entries.items c.loop-step.waiting.marks.items (c.settle.new.entries.items, c.settle.new.waiting.marks.items) c.loop-step-test.true c.in_ok-settle.ensures.settled;
      count = ap (λ r. length r.0) c.in_ok-settle.ensures.settled ∙ fallen.count ∙ c.loop-step.invariant.count;
      marks = ap (λ r. length r.1) c.in_ok-settle.ensures.settled ∙ fallen.marked ∙ c.loop-step.invariant.marks;
      waiting = c.in_ok-settle.ensures.waiting;
      fewer = less_then c.in_ok-settle.ensures.fewer c.loop-step.invariant.fewer;
    }
