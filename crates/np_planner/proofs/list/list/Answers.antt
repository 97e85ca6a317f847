use Rattle.np_answers.specs.CommandSteps.{told_inputs}
use Rattle.np_planner.proofs.ListEnds.{listed}
use Rattle.np_planner.proofs.list.list.Goals as goal

pub returns-in-Ok : goal.returns-in-Ok
returns-in-Ok g c =
    listed (told_inputs c.args.inputs.now) (g.S.Shelf.seen c.args.shelf.now) (g.S.Shelf.seen c.held_flat.new.shelf) c.in-Ok.pair.task c.in-Ok.pair.flat c.in-Ok.ensures c.list_flat.result c.list_flat.ensures
