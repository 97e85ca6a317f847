use Rattle.np_flat.proofs.Runs.{step_adds_net}
use Rattle.np_flat.proofs.laws.step_adds_net.Goals as goal

pub returns : goal.returns
returns c = step_adds_net
