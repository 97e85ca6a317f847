use Rattle.np_commands.proofs.Judging.{valid_alone}
use Rattle.np_commands.proofs.check.judge.Goals as goal

pub returns-in-Ok : goal.returns-in-Ok
returns-in-Ok c = valid_alone c.args.flat.now c.args.certificate.now c.in-Ok.ensures.valid
