use Rattle.np_bind.proofs.SameRuns.{same_runs}
use Rattle.np_bind.proofs.laws.same_runs.Goals as goal

pub returns : goal.returns
returns c = same_runs
