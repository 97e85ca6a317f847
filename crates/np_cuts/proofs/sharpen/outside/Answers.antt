use Rattle.std.proofs.Common.{◌∙◌, ap, not}
use Rattle.np_relax.specs.Closed.{on}
use Rattle.np_cuts.proofs.Lists.{filter_yes, filter_no}
use Rattle.np_cuts.proofs.sharpen.outside.Goals as goal
use Rattle.np_cuts.proofs.sharpen.outside.Goals.{then-not-can-subgoal+in_ok-push, else-not-can-subgoal}

pub loop-subgoal-preserved : goal.loop-subgoal-preserved
loop-subgoal-preserved c =
    elim c.if-not-can-subgoal.branch [
      | then-not-can-subgoal+in_ok-push w ↦
          filter_yes (λ q. not (on c.args.can.now q)) c.loop-subgoal.subgoal c.loop-subgoal.members.items c.if-not-can-subgoal.members.items (ap not w.if-not-can-subgoal.true) c.loop-subgoal.invariant (ap (λ v. v.items) w.members-is ∙ w.in_ok-push.ensures.items)
      | else-not-can-subgoal w ↦
          filter_no (λ q. not (on c.args.can.now q)) c.loop-subgoal.subgoal c.loop-subgoal.members.items c.if-not-can-subgoal.members.items (ap not w.if-not-can-subgoal.false) c.loop-subgoal.invariant (ap (λ v. v.items) w.members-is)
    ]
