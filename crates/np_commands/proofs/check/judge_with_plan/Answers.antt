use Rattle.np_commands.proofs.Judging.{compared_beside}
use Rattle.np_commands.proofs.check.judge_with_plan.Goals as goal

pub compared-requires-clause-bounds : goal.compared-requires-clause-bounds
compared-requires-clause-bounds c = c.in-Ok.ensures.bounds

pub returns-in-Ok : goal.returns-in-Ok
returns-in-Ok c = compared_beside c.args.flat.now c.args.certificate.now c.args.steps.now c.in-Ok.ensures.valid c.compared.result c.compared.ensures
