use Rattle.np_bind.proofs.SameRuns.{same_plans}
use Rattle.np_bind.proofs.laws.same_plans.Goals as goal

pub returns : goal.returns
returns c = same_plans
