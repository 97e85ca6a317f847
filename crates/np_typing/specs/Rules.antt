-- The faults of a domain and a problem, rule after rule. A rule looks at the domain, then at the problem, in the order of the text.
use Rattle.std.specs.Prelude.{false, List, [], ◌++◌, Option}
use Rattle.std.specs.List.{flat_map}
use Rattle.np_words.specs.declared.word.Group.{Group}
use Rattle.np_conditions.specs.declared.condition.Condition.{Condition}
use Rattle.np_conditions.specs.declared.effect.Effect.{Effect}
use Rattle.np_syntax.specs.declared.domain.Domain.{Domain}
use Rattle.np_syntax.specs.declared.domain.DomainSection.{DomainSection}
use Rattle.np_syntax.specs.declared.domain.DomainSection.TheVariants as d
use Rattle.np_problem.specs.declared.problem.Problem.{Problem}
use Rattle.np_problem.specs.declared.problem.ProblemSection.{ProblemSection}
use Rattle.np_problem.specs.declared.problem.ProblemSection.TheVariants as p
use Rattle.np_names.specs.declared.fault.TypeFault.{TypeFault}
use Rattle.np_names.specs.declared.fault.Source.TheVariants.{Domain as InDomain, Problem as InProblem}
use Rattle.np_names.specs.Names.{each_after, given}
use Rattle.np_names.specs.Sections.{section_faults}
use Rattle.np_declared.specs.Rules.{declaration_faults}
use Rattle.np_typing.specs.Scopes.{Scope, with_parameters}
use Rattle.np_typing.specs.Uses.{expr_faults, condition_faults, effect_faults}
use Rattle.np_typing.specs.Facts.{fact_faults}
use Rattle.np_declared.specs.Symbols.{if_given}
use Rattle.np_typing.specs.TaskOf.{section_facts, scope_of}

-- ---- what sections use

-- the uses of an action: those of its condition, and then those of its effect
abbrev pub action_faults : Scope → Option (List Group) → Option Condition → Option Effect → List TypeFault
action_faults scope groups c e =
    let inside = with_parameters scope (given groups) in
    if_given (condition_faults inside) c ++ if_given (effect_faults inside) e

abbrev pub section_use_faults : Scope → DomainSection → List TypeFault
section_use_faults scope (d.Action place w groups c e) = action_faults scope groups c e
section_use_faults scope _ = []

-- those of a section of a problem; facts come after those of the sections before
abbrev pub problem_section_use_faults : Scope → List ProblemSection → ProblemSection → List TypeFault
problem_section_use_faults scope before (p.Init place facts) = each_after (fact_faults scope) (flat_map section_facts before) facts
problem_section_use_faults scope before (p.Goal place c) = condition_faults scope c
problem_section_use_faults scope before (p.Metric place v) = expr_faults scope false v
problem_section_use_faults scope before _ = []

abbrev pub use_faults : Domain → Problem → List TypeFault
use_faults domain problem = flat_map (section_use_faults (scope_of InDomain domain problem)) domain.sections

abbrev pub problem_use_faults : Domain → Problem → List TypeFault
problem_use_faults domain problem = each_after (problem_section_use_faults (scope_of InProblem domain problem)) [] problem.sections

-- ---- all

-- the faults: of sections, of declarations, and of uses, where each symbol, object and variable has to be declared and to fit. An unknown symbol, or one
-- with a wrong number of arguments, stands for what would be wrong with its arguments too. In values that were read, the order is that of places
abbrev pub all_faults : Domain → Problem → List TypeFault
all_faults domain problem =
    section_faults domain problem ++ (declaration_faults domain problem ++ (use_faults domain problem ++ problem_use_faults domain problem))
