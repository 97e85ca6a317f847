use Rattle.std.proofs.Common.{sym, ◌∙◌, ap}
use Rattle.np_cuts.proofs.Lists.{sharp_yes, sharp_no}
use Rattle.np_cuts.proofs.sharpen.sharpened_cuts.Goals as goal
use Rattle.np_cuts.proofs.sharpen.sharpened_cuts.Goals.{then-not-holds+in_ok-cut+in_ok-push, else-not-holds}

pub loop-subgoal-preserved : goal.loop-subgoal-preserved
loop-subgoal-preserved c =
    elim c.if-not-holds.branch [
      | then-not-holds+in_ok-cut+in_ok-push w ↦
          sharp_yes c.args.flat.now c.args.state.now c.goal-goal.result.now c.loop-subgoal.subgoal-index 0 c.loop-subgoal.rows.items c.if-not-holds.rows.items w.in_ok-cut.cut c.loop-subgoal-test.true (sym c.holds.ensures ∙ w.if-not-holds.true) c.loop-subgoal.invariant w.in_ok-cut.ensures (ap (λ v. v.items) w.rows-is ∙ w.in_ok-push.ensures.items)
      | else-not-holds w ↦
          sharp_no c.args.flat.now c.args.state.now c.goal-goal.result.now c.loop-subgoal.subgoal-index 0 c.loop-subgoal.rows.items c.if-not-holds.rows.items c.loop-subgoal-test.true (sym c.holds.ensures ∙ w.if-not-holds.false) c.loop-subgoal.invariant (ap (λ v. v.items) w.rows-is)
    ]
