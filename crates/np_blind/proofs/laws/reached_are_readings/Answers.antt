use Rattle.np_blind.proofs.Runs.{reached_are_readings as law}
use Rattle.np_blind.proofs.laws.reached_are_readings.Goals as goal

pub returns : goal.returns
returns c = law
