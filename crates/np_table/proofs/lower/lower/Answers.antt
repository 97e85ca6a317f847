use Rattle.std.proofs.Common.{◌<◌, ◌∙◌, ap, length, get_or, subst, sym}
use Rattle.np_table.proofs.Falls.{one_fallen, lower_more, less_then}
use Rattle.np_table.proofs.lower.lower.Goals as goal

pub loop-subgoal-preserved : goal.loop-subgoal-preserved
loop-subgoal-preserved c =
    let q = get_or c.args.subgoals.now c.loop-subgoal.subgoal-index 0 in
    let here : q < length c.loop-subgoal.entries.items = subst (λ k. q < k) (sym c.loop-subgoal.invariant.count) (c.requires.subgoals c.loop-subgoal.subgoal-index 0 c.loop-subgoal-test.true) in
    let fallen = one_fallen c.args.flat.now c.args.units.now c.args.step c.args.reach q c.loop-subgoal.entries.items c.loop-subgoal.waiting.marks.items here (c.loop-subgoal.invariant.marks ∙ sym c.loop-subgoal.invariant.count) in
    record {
      rest = c.loop-subgoal.invariant.rest ∙ lower_more c.args.flat.now c.args.units.now c.args.step c.args.reach c.args.subgoals.now c.loop-subgoal.subgoal-index 0 c.loop-subgoal.entries.items c.loop-subgoal.waiting.marks.items (c.lower_one.new.entries.items, c.lower_one.new.waiting.marks.items) c.loop-subgoal-test.true c.in_ok-lower_one.ensures.lowered;
      count = ap (λ r. length r.0) c.in_ok-lower_one.ensures.lowered ∙ fallen.count ∙ c.loop-subgoal.invariant.count;
      marks = ap (λ r. length r.1) c.in_ok-lower_one.ensures.lowered ∙ fallen.marked ∙ c.loop-subgoal.invariant.marks;
      waiting = c.in_ok-lower_one.ensures.waiting;
      fewer = less_then c.in_ok-lower_one.ensures.fewer c.loop-subgoal.invariant.fewer;
    }
