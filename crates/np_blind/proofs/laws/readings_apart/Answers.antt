use Rattle.np_blind.proofs.Runs.{readings_apart as law}
use Rattle.np_blind.proofs.laws.readings_apart.Goals as goal

pub returns : goal.returns
returns c = law
