use Rattle.np_linear.proofs.LinearLaws.{missing_means}
use Rattle.np_linear.proofs.laws.missing_means.Goals as goal

pub returns : goal.returns
returns c = missing_means
