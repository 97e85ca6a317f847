use Rattle.np_check.proofs.OneVerdict.{one_verdict}
use Rattle.np_check.proofs.laws.one_verdict.Goals as goal

pub returns : goal.returns
returns c = one_verdict
