use Rattle.std.proofs.Common.{[]}
use Rattle.np_declared.specs.LookUps.{HasTables}
use Rattle.np_declared.specs.Rules.{declaration_faults}
use Rattle.np_names.proofs.Answering.{passed_on}
use Rattle.np_names.proofs.DeclarationLaws.{answers_like}
use Rattle.np_declared.proofs.TaskFaults.{first_of_names, first_of_types, first_of_unknown, no_declaration_fault}
use Rattle.np_declared.proofs.both.declared.Goals as goal

pub returns-in_err-names : goal.returns-in_err-names
returns-in_err-names c =
    passed_on (declaration_faults c.args.domain.now c.args.problem.now) (HasTables c.args.domain.now c.args.problem.now) c.from_residual.result c.in_err-names.field-0.0
    (first_of_names c.args.domain.now c.args.problem.now c.in_err-names.field-0.0 c.in_err-names.ensures) c.from_residual.ensures.1

pub returns-in_err-types : goal.returns-in_err-types
returns-in_err-types c =
    passed_on (declaration_faults c.args.domain.now c.args.problem.now) (HasTables c.args.domain.now c.args.problem.now) c.from_residual-in_err-types.result c.in_err-types.field-0.0
    (first_of_types c.args.domain.now c.args.problem.now c.in_ok-names.ensures.0 c.in_err-types.field-0.0 c.in_err-types.ensures) c.from_residual-in_err-types.ensures.1

pub returns-in_err-known : goal.returns-in_err-known
returns-in_err-known c =
    passed_on (declaration_faults c.args.domain.now c.args.problem.now) (HasTables c.args.domain.now c.args.problem.now) c.from_residual-in_err-known.result c.in_err-known.field-0.0
    (first_of_unknown c.args.domain.now c.args.problem.now c.in_ok-names.ensures.0 c.in_ok-types.ensures.0 c.in_err-known.field-0.0 c.in_err-known.ensures) c.from_residual-in_err-known.ensures.1

pub returns : goal.returns
returns c =
    answers_like [] (declaration_faults c.args.domain.now c.args.problem.now) (HasTables c.args.domain.now c.args.problem.now) (HasTables c.args.domain.now c.args.problem.now)
    (no_declaration_fault c.args.domain.now c.args.problem.now c.in_ok-names.ensures.0 c.in_ok-types.ensures.0 c.in_ok-known.ensures.0) (λ _ h. h) c.numbered.result c.numbered.ensures
