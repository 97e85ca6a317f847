use Rattle.np_flat.proofs.Runs.{small_from_start}
use Rattle.np_flat.proofs.laws.started_runs_are_small.Goals as goal

pub returns : goal.returns
returns c = small_from_start
