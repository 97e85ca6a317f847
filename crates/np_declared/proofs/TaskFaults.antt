-- Faults of declarations, and of declarations and uses, one part after the other.
use Rattle.std.proofs.Common.{◌≡◌, List, [], ◌++◌, sym, ◌∙◌, append_assoc, append-nil}
use Rattle.np_syntax.specs.declared.domain.Domain.{Domain}
use Rattle.np_problem.specs.declared.problem.Problem.{Problem}
use Rattle.np_names.specs.declared.fault.TypeFault.{TypeFault}
use Rattle.np_names.specs.Answers.{IsFirst}
use Rattle.np_names.specs.Declarations.{names_twice, problem_names_twice}
use Rattle.np_declared.specs.TypeRules.{type_cycles, unknown_types, problem_unknown_types}
use Rattle.np_declared.specs.Rules.{declaration_faults}
use Rattle.np_names.proofs.Answering.{first_in, rest_of}

module _ (domain : Domain) (problem : Problem) where
  abbrev names : List TypeFault
  names = names_twice domain ++ problem_names_twice domain problem

  abbrev unknown : List TypeFault
  unknown = unknown_types domain ++ problem_unknown_types domain problem

  split : declaration_faults domain problem ≡ names ++ (type_cycles domain ++ unknown)
  split = sym (append_assoc (names_twice domain) (problem_names_twice domain problem) (type_cycles domain ++ unknown))

  -- the first fault of names is the first of all
  pub first_of_names : (fault : TypeFault) → IsFirst names fault → IsFirst (declaration_faults domain problem) fault
  first_of_names = first_in (declaration_faults domain problem) names (type_cycles domain ++ unknown) split

  module _ (no_names : names ≡ []) where
    after_names : declaration_faults domain problem ≡ type_cycles domain ++ unknown
    after_names = rest_of (declaration_faults domain problem) names (type_cycles domain ++ unknown) split no_names

    -- after names that of types
    pub first_of_types : (fault : TypeFault) → IsFirst (type_cycles domain) fault → IsFirst (declaration_faults domain problem) fault
    first_of_types = first_in (declaration_faults domain problem) (type_cycles domain) unknown after_names

    module _ (no_cycles : type_cycles domain ≡ []) where
      after_types : declaration_faults domain problem ≡ unknown
      after_types = rest_of (declaration_faults domain problem) (type_cycles domain) unknown after_names no_cycles

      -- after types that of unknown types
      pub first_of_unknown : (fault : TypeFault) → IsFirst unknown fault → IsFirst (declaration_faults domain problem) fault
      first_of_unknown = first_in (declaration_faults domain problem) unknown [] (after_types ∙ sym (append-nil unknown))

      -- and then there is none
      pub no_declaration_fault : unknown ≡ [] → declaration_faults domain problem ≡ []
      no_declaration_fault none = after_types ∙ none
