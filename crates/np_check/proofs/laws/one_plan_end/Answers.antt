use Rattle.np_check.proofs.OnePlanEnd.{one_plan_end}
use Rattle.np_check.proofs.laws.one_plan_end.Goals as goal

pub returns : goal.returns
returns c = one_plan_end
