use Rattle.np_scale.proofs.SameRuns.{same_runs}
use Rattle.np_scale.proofs.laws.same_runs.Goals as goal

pub returns : goal.returns
returns c = same_runs
