use Rattle.np_blind.proofs.Runs.{same_plans as law}
use Rattle.np_blind.proofs.laws.same_plans.Goals as goal

pub returns : goal.returns
returns c = law
