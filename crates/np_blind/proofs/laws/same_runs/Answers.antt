use Rattle.np_blind.proofs.Runs.{same_runs as law}
use Rattle.np_blind.proofs.laws.same_runs.Goals as goal

pub returns : goal.returns
returns c = law
