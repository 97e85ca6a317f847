use Rattle.std.proofs.Common.{List, [], ◌++◌, sym, ap, ◌∙◌}
use Rattle.np_model.specs.declared.task.Action.{Action}
use Rattle.np_names.specs.declared.fault.Source.TheVariants.{Domain as InDomain}
use Rattle.np_typing.specs.LookUps.{scope_from}
use Rattle.np_typing.proofs.UsesAnswers.{handed, first_same, answers_same}
use Rattle.np_typing.proofs.UsesActions.{section_faults_are, section_action_is}
use Rattle.np_typing.proofs.uses.actions.put_section.Goals as goal

pub returns-in_err-action-in-Action : goal.returns-in_err-action-in-Action
returns-in_err-action-in-Action c =
    let scope = scope_from InDomain c.args.tables.now in
    let a = c.in-Action in
    handed _ _ c.from_residual.result c.in_err-action-in-Action.field-0.0 c.from_residual.ensures.1
    (first_same _ _ _ (section_faults_are scope c.args.section.now a.field-0 a.word a.groups a.given a.effect c.given_groups.result.now a.is c.given_groups.ensures)
    c.in_err-action-in-Action.ensures)

pub returns-in_ok-action-in-Action : goal.returns-in_ok-action-in-Action
returns-in_ok-action-in-Action c =
    let scope = scope_from InDomain c.args.tables.now in
    let a = c.in-Action in
    answers_same _ [] _ _ c.put.result
    (section_faults_are scope c.args.section.now a.field-0 a.word a.groups a.given a.effect c.given_groups.result.now a.is c.given_groups.ensures ∙ c.in_ok-action-in-Action.ensures.0)
    (λ all e. e ∙ ap (λ (xs : List Action). c.args.so_far ++ xs)
    (sym (section_action_is scope c.args.section.now a.field-0 a.word a.groups a.given a.effect c.given_groups.result.now a.is c.given_groups.ensures
    c.in_ok-action-in-Action.field-0 c.in_ok-action-in-Action.ensures.1)))
    c.put.ensures
