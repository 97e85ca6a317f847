use Rattle.std.proofs.Common.{◌≡◌, List, ◌++◌, sym, ap, ◌∙◌}
use Rattle.np_model.specs.declared.task.Cond.{Cond}
use Rattle.np_conditions.specs.declared.condition.Condition.TheVariants as condition
use Rattle.np_typing.proofs.UsesAnswers.{answers_same}
use Rattle.np_typing.proofs.UsesFolds.{faults_of_conditions, conditions_of_parts}
use Rattle.np_typing.proofs.uses.conditions.+conditions.Goals as goal

pub condition-returns-in-And : goal.condition-returns-in-And
condition-returns-in-And t c =
    let parts = c.as_slice.result.now in
    let is : c.args.condition.now ≡ condition.And parts = c.in-And.is ∙ ap condition.And (sym c.as_slice.ensures) in
    answers_same _ _ _ _ c.conditions.result (faults_of_conditions c.args.scope.now c.args.condition.now parts is)
    (λ all e. e ∙ ap (λ (xs : List Cond). c.args.so_far ++ xs) (sym (conditions_of_parts c.args.scope.now c.args.condition.now parts is)))
    c.conditions.ensures
