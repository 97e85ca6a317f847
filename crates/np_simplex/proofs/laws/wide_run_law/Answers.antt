use Rattle.np_simplex.proofs.Wide.{wide_run_past}
use Rattle.np_simplex.proofs.laws.wide_run_law.Goals as goal

pub returns : goal.returns
returns c = wide_run_past
