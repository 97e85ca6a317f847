use Rattle.np_linear.proofs.LinearLaws.{linear_means}
use Rattle.np_linear.proofs.laws.linear_means.Goals as goal

pub returns : goal.returns
returns c = linear_means
