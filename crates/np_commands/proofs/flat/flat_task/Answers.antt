use Rattle.std.proofs.Common.{subst}
use Rattle.np_model.specs.declared.task.TaskParts.{TaskParts}
use Rattle.np_commands.specs.FlatTasks.{scale_refusal}
use Rattle.np_commands.specs.Steps.{IsRefusal}
use Rattle.np_commands.proofs.Refusals.{unscaled}
use Rattle.np_commands.proofs.flat.flat_task.Goals as goal

pub returns-clause-refused : goal.returns-clause-refused
returns-clause-refused c =
    unscaled c.args.task.now c.in-Ok.bound c.in-Ok.ensures c.in-Err-scale.fault c.unscaled.result c.in-Err-scale.ensures
    (subst (λ (t : TaskParts). IsRefusal (scale_refusal t c.in-Err-scale.fault) c.unscaled.result) c.parts-in-Err-scale.ensures.parts c.unscaled.ensures)
