-- The faults of declarations, rule after rule. A rule looks at the domain, then at the problem, in the order of the text.
use Rattle.std.specs.Prelude.{List, ◌++◌}
use Rattle.np_syntax.specs.declared.domain.Domain.{Domain}
use Rattle.np_problem.specs.declared.problem.Problem.{Problem}
use Rattle.np_names.specs.declared.fault.TypeFault.{TypeFault}
use Rattle.np_names.specs.Declarations.{names_twice, problem_names_twice}
use Rattle.np_declared.specs.TypeRules.{type_cycles, unknown_types, problem_unknown_types}

-- declarations: no name comes again, no type is under itself, and each type is declared
abbrev pub declaration_faults : Domain → Problem → List TypeFault
declaration_faults domain problem =
    names_twice domain ++ (problem_names_twice domain problem
    ++ (type_cycles domain ++ (unknown_types domain ++ problem_unknown_types domain problem)))
