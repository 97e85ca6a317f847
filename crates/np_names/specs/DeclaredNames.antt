-- What the lists of declared names hold.
use Rattle.std.specs.Prelude.{◌≡◌, List, ◌++◌}
use Rattle.std.specs.List.{flat_map}
use Rattle.np_syntax.specs.declared.domain.Domain.{Domain}
use Rattle.np_syntax.specs.declared.domain.DomainSection.{DomainSection}
use Rattle.np_problem.specs.declared.problem.Problem.{Problem}
use Rattle.np_names.specs.declared.declarations.Declarations.{Declarations}
use Rattle.np_names.specs.Names.{texts, words_of}
use Rattle.np_names.specs.Declarations.{listed_types, names_of, type_groups, constant_groups, declared_predicates, declared_functions, action_names, all_types, all_constants, all_predicates, all_functions, all_objects}

-- what the sections of a domain declare
pub record HasNames (before : List DomainSection) (all : Declarations) : Type 0 where
  pub types : all.types ≡ texts (listed_types (flat_map type_groups before))
  pub objects : all.objects ≡ texts (words_of (flat_map constant_groups before))
  pub predicates : all.predicates ≡ texts (names_of (flat_map declared_predicates before))
  pub functions : all.functions ≡ texts (names_of (flat_map declared_functions before))
  pub actions : all.actions ≡ texts (flat_map action_names before)

-- what both declare
pub record HasDeclared (domain : Domain) (problem : Problem) (all : Declarations) : Type 0 where
  pub types : all.types ≡ texts (listed_types (all_types domain))
  pub objects : all.objects ≡ texts (words_of (all_constants domain ++ all_objects problem))
  pub predicates : all.predicates ≡ texts (names_of (all_predicates domain))
  pub functions : all.functions ≡ texts (names_of (all_functions domain))
  pub actions : all.actions ≡ texts (flat_map action_names domain.sections)
