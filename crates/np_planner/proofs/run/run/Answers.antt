use Rattle.std.proofs.Common.{List, sym, subst}
use Rattle.std.specs.Prelude.{IsTrue, All}
use Rattle.np_model.specs.declared.task.Step.{Step}
use Rattle.np_model.specs.Steps.{is_step}
use Rattle.np_planner.proofs.RunEnds.{plan_steps}
use Rattle.np_planner.proofs.run.run.Goals as goal

pub run_steps-requires : goal.run_steps-requires
run_steps-requires g c =
    subst (λ (steps : List Step). All (λ step. IsTrue (is_step c.in-Ok.task step)) steps) (sym c.as_slice.ensures.value)
    (plan_steps c.in-Ok.task c.args.command.now.plan.now (g.S.Shelf.seen c.held_task.new.shelf) c.in-Ok-held_plan.steps.items c.in-Ok-held_plan.ensures.found.1)
