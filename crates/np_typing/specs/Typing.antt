-- Typing: which pairs of a domain and a problem are well-formed, and what the first fault of another pair is.
--
-- Which definition says what. Types, typed lists and static symbols are PDDL's (Fox and Long 2003); the order of faults, what is taken leniently, and that amounts
-- read static functions alone are this project's own. Sections and Declarations are modules of np_names, Types, TypeRules and Symbols of np_declared,
-- Numbers of np_words:
--   rules one after the other, the domain before the problem, in the order of the text     Rules.all_faults
--   a section other than `:action` comes again; its second keyword                         Sections.sections_twice, problem_sections_twice
--   a problem without `:domain` or `:goal`; its first token                                Sections.sections_missing
--   the name in `:domain` is another                                                       Sections.other_domains
--   a name comes again among those of its kind; the second one                             Declarations.names_twice, problem_names_twice
--   `object` without a supertype lists nothing; a supertype is no listing                  Declarations.listed_under
--   a type under itself, `object` under a type; the first listed                           TypeRules.is_cyclic, type_cycles
--   types outside `:types` are declared                                                    TypeRules.unknown_types, problem_unknown_types
--   a supertype that isn't listed is a type under `object`; types by first occurrence      Types.type_names, supertype, types_of
--   a name without a type has type `object`                                                Types.type_number
--   constants, then objects                                                                Symbols.objects_of
--   an action may name an object of the problem                                            Symbols.objects_of, TaskOf.scope_of
--   a symbol before its arguments                                                          Uses.declared_faults
--   predicate, function, object and variable are declared                                  Uses.predicate_faults, function_faults, object_faults
--   the number of arguments, at the symbol, before all else of it                          Uses.declared_faults
--   an argument's type is the parameter's or under it                                      Uses.argument_faults
--   an amount reads static functions alone, at the function                                Uses.declared_faults, change_faults
--   which functions are static: no effect names them as what it changes                    Symbols.all_touched, all_changed, signature
--   which `=` is of objects: a side is a variable, or a bare name of an object             Uses.says_object, is_of_objects
--   there a side that is neither has the wrong type, a bare name that is none is unknown   Uses.object_side_faults
--   `not` round `=` is of objects                                                          Uses.condition_faults_from
--   a term has one value; `(g)` and `g` are one term                                       Facts.fact_faults, has_value
--   `not` in `:init` is typed and says nothing; atoms by first occurrence, each once       Facts.fact_faults, fact_atoms, atoms_of
--   a missing `:init` is an empty one; no variable is bound in a problem                   TaskOf.task_of, scope_of
--   nested `and` is one list; `not` turns an order comparison round                        Resolved.conditions_from, effects_from
--   the metric; predicates, functions and actions by number, in the order of the text      TaskOf.metric_with, section_actions; Symbols.predicates_of, functions_of
--   a number is its digits over a power of 10                                              Numbers.fraction_of
use Rattle.std.specs.Prelude.{◌≡◌, ◌+◌, ◌^◌, ◌<◌, [], length, All, Some}
use Rattle.np_syntax.specs.declared.domain.Domain.{Domain}
use Rattle.np_syntax.specs.Domains.{IsDomain, domain_text}
use Rattle.np_words.specs.Wide.{IsShortLexeme}
use Rattle.np_problem.specs.declared.problem.Problem.{Problem}
use Rattle.np_problem.specs.ProblemText.{IsProblem}
use Rattle.np_problem.specs.Problems.{problem_text}
use Rattle.np_names.specs.declared.fault.TypeFault.{TypeFault}
use Rattle.np_names.specs.Faults.{first_of}
use Rattle.np_typing.specs.Rules.{all_faults}

-- the two have texts, in which no number has more than 38 digits, and which together have fewer than 2^31 tokens
pub record IsSpelledPair (domain : Domain) (problem : Problem) : Type 0 where
  pub is_domain : IsDomain domain
  pub short_domain : All IsShortLexeme (domain_text domain)
  pub is_problem : IsProblem problem
  pub short_problem : All IsShortLexeme (problem_text problem)
  pub few : length (domain_text domain) + length (problem_text problem) < 2 ^ 31

-- no rule is broken
abbrev pub IsWellFormed : Domain → Problem → Type 0
IsWellFormed domain problem = all_faults domain problem ≡ []

-- the first fault
abbrev pub IsFirstFault : Domain → Problem → TypeFault → Type 0
IsFirstFault domain problem fault = first_of (all_faults domain problem) ≡ Some fault
