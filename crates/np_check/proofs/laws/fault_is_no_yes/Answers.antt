use Rattle.np_check.proofs.OneVerdict.{fault_is_no_yes}
use Rattle.np_check.proofs.laws.fault_is_no_yes.Goals as goal

pub returns : goal.returns
returns c = fault_is_no_yes
