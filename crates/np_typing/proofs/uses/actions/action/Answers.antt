use Rattle.std.proofs.Common.{◌≡◌, sym, ap, ◌∙◌}
use Rattle.np_names.specs.declared.fault.Source.TheVariants.{Domain as InDomain}
use Rattle.np_typing.specs.LookUps.{scope_from}
use Rattle.np_typing.specs.Scopes.{Scope, with_parameters}
use Rattle.np_declared.specs.Types.{numbers_in}
use Rattle.np_typing.proofs.UsesAnswers.{handed, first_same}
use Rattle.np_typing.proofs.UsesActions.{scope_with, faults_in, action_is}
use Rattle.np_typing.proofs.uses.actions.action.Goals as goal

pub returns-in_err-needs : goal.returns-in_err-needs
returns-in_err-needs c =
    let scope : Scope = with_parameters (scope_from InDomain c.args.tables.now) c.args.groups.now in
    let same : c.new-scope.result ≡ scope =
    scope_with InDomain c.args.tables.now c.args.groups.now _ _ c.new-scope.result c.requires c.in_ok-variables.ensures.1 (c.as_slice.ensures ∙ c.in_ok-parameters.ensures) c.new-scope.ensures in
    handed _ _ c.from_residual-in_err-needs.result c.in_err-needs.field-0.0 c.from_residual-in_err-needs.ensures.1
    (first_same (faults_in c.args.given.now c.args.effect.now scope) (faults_in c.args.given.now c.args.effect.now c.new-scope.result) c.in_err-needs.field-0.0
    (ap (faults_in c.args.given.now c.args.effect.now) (sym same)) c.in_err-needs.ensures)

pub returns : goal.returns
returns c =
    let scope : Scope = with_parameters (scope_from InDomain c.args.tables.now) c.args.groups.now in
    let same : c.new-scope.result ≡ scope =
    scope_with InDomain c.args.tables.now c.args.groups.now _ _ c.new-scope.result c.requires c.in_ok-variables.ensures.1 (c.as_slice.ensures ∙ c.in_ok-parameters.ensures) c.new-scope.ensures in (
      ap (faults_in c.args.given.now c.args.effect.now) (sym same) ∙ c.in_ok-needs.ensures.0,
      action_is c.new-scope.result scope c.args.given.now c.args.effect.now c.args.word.now.text c.in_ok-copy.field-0 scope.variable_types c.in_ok-parameters.parameters
          c.in_ok-needs.needs c.in_ok-needs.effects same c.in_ok-copy.ensures (c.in_ok-parameters.ensures ∙ ap (λ ts. numbers_in ts c.args.groups.now) c.requires.types_are)
          c.in_ok-needs.ensures.1.0 c.in_ok-needs.ensures.1.1,
    )
