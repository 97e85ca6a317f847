use Rattle.np_bind.proofs.SameRuns.{dropped_never_goes}
use Rattle.np_bind.proofs.laws.dropped_never_goes.Goals as goal

pub returns : goal.returns
returns c = dropped_never_goes
