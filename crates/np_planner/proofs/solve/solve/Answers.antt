use Rattle.std.proofs.Common.{inr}
use Rattle.np_answers.specs.CommandSteps.{told_solve}
use Rattle.np_planner.proofs.SolveEnds.{finished}
use Rattle.np_planner.proofs.solve.solve.Goals as goal

pub returns-in-Ok-solve_task : goal.returns-in-Ok-solve_task
returns-in-Ok-solve_task g c =
    inr (finished (told_solve c.args.command.now) c.requires.apart (g.S.Shelf.seen c.args.shelf.now) (g.S.Shelf.seen c.held_flat.new.shelf) c.in-Ok.pair.task c.in-Ok.pair.flat
    c.in-Ok.ensures c.in-Ok-solve_task.work c.in-Ok-solve_task.ensures (g.S.Shelf.seen c.put_work.new.shelf) c.put_work.result c.put_work.ensures)
