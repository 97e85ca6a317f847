use Rattle.np_scale.proofs.SameRuns.{plans_cost_whole}
use Rattle.np_scale.proofs.laws.plans_cost_whole.Goals as goal

pub returns : goal.returns
returns c = plans_cost_whole
