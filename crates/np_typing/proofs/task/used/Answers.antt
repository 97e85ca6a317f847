use Rattle.std.proofs.Common.{◌∙◌}
use Rattle.np_typing.proofs.UsesAnswers.{handed}
use Rattle.np_typing.proofs.UsedTask.{first_of_uses, first_of_problem_uses, no_use_fault, used_task}
use Rattle.np_typing.proofs.task.used.Goals as goal

pub returns-in_err-actions : goal.returns-in_err-actions
returns-in_err-actions c =
    handed _ _ c.from_residual.result c.in_err-actions.field-0.0 c.from_residual.ensures.1
    (first_of_uses c.args.domain.now c.args.problem.now c.args.tables c.requires _ c.in_err-actions.ensures)

pub returns-in_err-start : goal.returns-in_err-start
returns-in_err-start c =
    handed _ _ c.from_residual-in_err-start.result c.in_err-start.field-0.0 c.from_residual-in_err-start.ensures.1
    (first_of_problem_uses c.args.domain.now c.args.problem.now c.args.tables c.requires c.in_ok-actions.ensures.0 _ c.in_err-start.ensures)

pub returns : goal.returns
returns c = (
  no_use_fault c.args.domain.now c.args.problem.now c.args.tables c.requires c.in_ok-actions.ensures.0 c.in_ok-start.ensures.0,
  c.in_ok-parts.ensures
      ∙ used_task c.args.domain.now c.args.problem.now c.args.tables c.requires c.in_ok-actions.actions c.in_ok-start.start c.in_ok-actions.ensures.1 c.in_ok-start.ensures.1,
)

pub actions_of-requires : goal.actions_of-requires
actions_of-requires c = c.requires.agree

pub start_of-requires : goal.start_of-requires
start_of-requires c = c.requires.agree
