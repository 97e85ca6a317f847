use Rattle.np_scale.proofs.Factors.{factor_makes_whole}
use Rattle.np_scale.proofs.laws.factor_makes_whole.Goals as goal

pub returns : goal.returns
returns c = factor_makes_whole
