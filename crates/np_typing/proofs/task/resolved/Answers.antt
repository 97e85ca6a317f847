use Rattle.std.proofs.Common.{◌≡◌, ◌++◌, ap}
use Rattle.np_model.specs.declared.task.TaskParts.{TaskParts}
use Rattle.np_declared.specs.Rules.{declaration_faults}
use Rattle.np_typing.specs.Rules.{use_faults, problem_use_faults}
use Rattle.np_typing.specs.TaskOf.{task_of}
use Rattle.np_names.proofs.DeclarationLaws.{answers_like}
use Rattle.np_typing.proofs.task.resolved.Goals as goal

pub returns : goal.returns
returns c =
    let domain = c.args.domain.now in
    let problem = c.args.problem.now in
    let uses = use_faults domain problem ++ problem_use_faults domain problem in
    answers_like uses (declaration_faults domain problem ++ uses) (λ (parts : TaskParts). parts ≡ task_of domain problem) (λ (parts : TaskParts). parts ≡ task_of domain problem)
    (ap (λ fs. fs ++ uses) c.in_ok-tables.ensures.0) (λ _ h. h) c.used.result c.used.ensures
