use Rattle.std.proofs.Common.{sym, subst}
use Rattle.np_model.specs.Tasks.{IsTask}
use Rattle.np_names.proofs.Answering.{none_more}
use Rattle.np_typing.proofs.TaskLaws.{keeps}
use Rattle.np_typing.proofs.task.resolve.Goals as goal

pub new-requires : goal.new-requires
new-requires c =
    subst IsTask (sym c.in_ok-parts.ensures.1)
    (keeps c.args.domain.now c.args.problem.now c.requires (none_more _ _ c.in_ok-well_sectioned.ensures.0 c.in_ok-parts.ensures.0))
