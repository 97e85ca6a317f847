use Rattle.np_commands.proofs.OneAnswer.{one_of_certificate, one_of_plan}
use Rattle.np_commands.proofs.laws.one_answer.Goals as goal

pub returns-clause-alone : goal.returns-clause-alone
returns-clause-alone c = one_of_certificate

pub returns-clause-beside : goal.returns-clause-beside
returns-clause-beside c = one_of_plan
