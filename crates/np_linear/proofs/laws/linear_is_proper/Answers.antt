use Rattle.np_linear.proofs.LinearLaws.{linear_is_proper}
use Rattle.np_linear.proofs.laws.linear_is_proper.Goals as goal

pub returns : goal.returns
returns c = linear_is_proper
