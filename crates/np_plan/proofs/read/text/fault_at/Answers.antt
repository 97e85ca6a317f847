use Rattle.np_plan.proofs.PlanLaws.{stop_short, stop_wide, stop_before}
use Rattle.np_plan.proofs.read.text.fault_at.Goals as goal

pub returns-in_default : goal.returns-in_default
returns-in_default c = stop_short c.args.bytes.now c.args.stop c.requires c.in_default.ensures.none

pub returns-then-place-stop : goal.returns-then-place-stop
returns-then-place-stop c = stop_wide c.args.bytes.now c.args.stop c.requires c.in-Some.place c.in-Some.ensures.found c.if-place-stop.true

pub returns : goal.returns
returns c = stop_before c.args.bytes.now c.args.stop c.requires c.in-Some.place c.in-Some.ensures.found c.if-place-stop.false
