use Rattle.np_commands.proofs.OneReason.{one_task_reason, one_certificate_reason, one_plan_reason}
use Rattle.np_commands.proofs.laws.one_reason.Goals as goal

pub returns-clause-task : goal.returns-clause-task
returns-clause-task c = one_task_reason

pub returns-clause-certificate : goal.returns-clause-certificate
returns-clause-certificate c = one_certificate_reason

pub returns-clause-plan : goal.returns-clause-plan
returns-clause-plan c = one_plan_reason
