use Rattle.np_scale.proofs.StandsForOne.{stands_for_one}
use Rattle.np_scale.proofs.laws.stands_for_one.Goals as goal

pub returns : goal.returns
returns c = stands_for_one
