use Rattle.std.proofs.Common.{ap}
use Rattle.np_answers.specs.CommandSteps.{told_check, told_plan}
use Rattle.np_planner.proofs.CheckEnds.{uncertified, judged, checked}
use Rattle.np_planner.proofs.check.check.Goals as goal

pub returns-in-Err-held_certificate : goal.returns-in-Err-held_certificate
returns-in-Err-held_certificate g c =
    uncertified (told_check c.args.command.now) (g.S.Shelf.seen c.args.shelf.now) (g.S.Shelf.seen c.held_flat.new.shelf) (g.S.Shelf.seen c.held_certificate.new.shelf) c.in-Ok.pair.task c.in-Ok.pair.flat
    c.in-Ok.ensures c.in-Err-held_certificate.answer c.in-Err-held_certificate.ensures

pub returns-in-None : goal.returns-in-None
returns-in-None g c =
    judged (told_check c.args.command.now) (g.S.Shelf.seen c.args.shelf.now) (g.S.Shelf.seen c.held_flat.new.shelf) (g.S.Shelf.seen c.held_certificate.new.shelf) c.in-Ok.pair.task c.in-Ok.pair.flat
    c.in-Ok.ensures c.in-Ok-held_certificate.certificate c.in-Ok-held_certificate.ensures (ap told_plan c.in-None.is) c.judge.result c.judge.ensures

pub returns : goal.returns
returns g c =
    checked (told_check c.args.command.now) (g.S.Shelf.seen c.args.shelf.now) (g.S.Shelf.seen c.held_flat.new.shelf) (g.S.Shelf.seen c.held_certificate.new.shelf) (g.S.Shelf.seen c.check_plan.new.shelf)
    c.in-Ok.pair.task c.in-Ok.pair.flat c.in-Ok.ensures c.in-Ok-held_certificate.certificate c.in-Ok-held_certificate.ensures c.in-Some.plan.now (ap told_plan c.in-Some.is) c.check_plan.result c.check_plan.ensures
