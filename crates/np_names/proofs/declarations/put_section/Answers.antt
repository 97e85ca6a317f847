use Rattle.std.proofs.Common.{refl}
use Rattle.np_names.proofs.DeclarationLaws.{requirements_section, types_section, constants_section, predicates_section, functions_section, action_section}
use Rattle.np_names.proofs.declarations.put_section.Goals as goal

pub returns-in-Requirements : goal.returns-in-Requirements
returns-in-Requirements c = rw c.in-Requirements.is (λ before h. (refl, requirements_section before c.in-Requirements.field-0 c.in-Requirements.field-1 c.args.all.now h))

pub returns-in-Types : goal.returns-in-Types
returns-in-Types c =
    rw c.in-Types.is (λ before h. types_section before c.in-Types.field-0 c.args.all.now (record c.args.all.now { types = c.put_types.new.names }) c.put_types.result h
    c.in-Types.groups refl refl refl refl (rw c.as_slice.ensures at c.put_types.ensures))

pub returns-in-Constants : goal.returns-in-Constants
returns-in-Constants c =
    rw c.in-Constants.is (λ before h. constants_section before c.in-Constants.field-0 c.args.all.now (record c.args.all.now { objects = c.put_groups.new.names }) c.put_groups.result h
    c.in-Constants.groups refl refl refl refl (rw c.as_slice-in-Constants.ensures at c.put_groups.ensures))

pub returns-in-Predicates : goal.returns-in-Predicates
returns-in-Predicates c =
    rw c.in-Predicates.is (λ before h. predicates_section before c.in-Predicates.field-0 c.args.all.now (record c.args.all.now { predicates = c.put_predicates.new.names }) c.put_predicates.result h
    c.in-Predicates.predicates refl refl refl refl (rw c.as_slice-in-Predicates.ensures at c.put_predicates.ensures))

pub returns-in-Functions : goal.returns-in-Functions
returns-in-Functions c =
    rw c.in-Functions.is (λ before h. functions_section before c.in-Functions.field-0 c.args.all.now (record c.args.all.now { functions = c.put_functions.new.names }) c.put_functions.result h
    c.in-Functions.functions refl refl refl refl (rw c.as_slice-in-Functions.ensures at c.put_functions.ensures))

pub returns-in-Action : goal.returns-in-Action
returns-in-Action c =
    rw c.in-Action.is (λ before h. action_section before c.in-Action.field-0 c.args.all.now (record c.args.all.now { actions = c.put_action.new.names }) c.put_action.result h
    c.in-Action.word c.in-Action.groups c.in-Action.field-3 c.in-Action.field-4 refl refl refl refl c.put_action.ensures)
