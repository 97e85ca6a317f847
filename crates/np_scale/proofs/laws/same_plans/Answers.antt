use Rattle.np_scale.proofs.SameRuns.{same_plans}
use Rattle.np_scale.proofs.laws.same_plans.Goals as goal

pub returns : goal.returns
returns c = same_plans
