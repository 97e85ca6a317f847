-- The words that a pair with a text declares are names.
use Rattle.std.proofs.Common.{List, []}
use Rattle.std.specs.Prelude.{All, Option, Some, None}
use Rattle.std.specs.List.{flat_map}
use Rattle.std.proofs.lemmas.List.Elements.{All-nil, All-cons, All-append, All-map, All-weaker}
use Rattle.np_words.specs.declared.word.Word.{Word}
use Rattle.np_words.specs.declared.word.Group.{Group}
use Rattle.np_words.specs.declared.word.ListKind.TheVariants.{Names}
use Rattle.np_syntax.specs.declared.domain.Domain.{Domain}
use Rattle.np_syntax.specs.declared.domain.DomainSection.{DomainSection}
use Rattle.np_syntax.specs.declared.domain.DomainSection.TheVariants as d
use Rattle.np_syntax.specs.DomainText.{IsDeclared}
use Rattle.np_syntax.specs.Domains.{IsDomain, IsActionCondition, IsActionEffect}
use Rattle.np_syntax.specs.SectionText as section
use Rattle.np_words.specs.Written.{IsName, IsOf, IsGroup}
use Rattle.np_problem.specs.declared.problem.Problem.{Problem}
use Rattle.np_problem.specs.declared.problem.ProblemSection.{ProblemSection}
use Rattle.np_problem.specs.declared.problem.ProblemSection.TheVariants as p
use Rattle.np_problem.specs.ProblemText.{IsProblem, IsSection}
use Rattle.np_names.specs.Names.{given_word, words_of}
use Rattle.np_declared.specs.Types.{type_words}
use Rattle.np_names.specs.Declarations.{type_groups, constant_groups, declared_predicates, declared_functions, action_names, object_groups, all_types, all_constants, all_predicates, all_functions, all_objects}
use Rattle.np_typing.proofs.keeping.DeclaredLists.{all_flat_map}

abbrev pub IsDomainSection : DomainSection → Type 0
IsDomainSection = section.IsSection IsActionCondition IsActionEffect

-- what holds of the items that each section gives
gathered : {S A : Type 0} (IsIt : S → Type 0) (P : A → Type 0) (f : S → List A) → ((s : S) → IsIt s → All P (f s)) → (ss : List S) → All IsIt ss → All P (flat_map f ss)
gathered IsIt P f step ss h = all_flat_map P f ss (All-weaker IsIt (λ s. All P (f s)) step ss h)

-- ---- typed lists

given_name : (of : Option Word) → IsOf of → All IsName (given_word of)
given_name None h = All-nil IsName
given_name (Some w) h = All-cons IsName w [] h (All-nil IsName)

pub words_named : (gs : List Group) → All (IsGroup Names) gs → All IsName (words_of gs)
words_named gs h = gathered (IsGroup Names) IsName (λ g. g.words) (λ g k. k.words) gs h

pub types_named : (gs : List Group) → All (IsGroup Names) gs → All IsName (flat_map type_words gs)
types_named gs h = gathered (IsGroup Names) IsName type_words (λ g k. All-append IsName g.words (given_word g.of) k.words (given_name g.of k.of)) gs h

-- ---- what sections declare

types_in : (s : DomainSection) → IsDomainSection s → All (IsGroup Names) (type_groups s)
types_in (d.Types place groups) h = h.each
types_in _ h = All-nil (IsGroup Names)

constants_in : (s : DomainSection) → IsDomainSection s → All (IsGroup Names) (constant_groups s)
constants_in (d.Constants place groups) h = h.each
constants_in _ h = All-nil (IsGroup Names)

predicates_in : (s : DomainSection) → IsDomainSection s → All IsDeclared (declared_predicates s)
predicates_in (d.Predicates place declared) h = h
predicates_in _ h = All-nil IsDeclared

functions_in : (s : DomainSection) → IsDomainSection s → All IsDeclared (declared_functions s)
functions_in (d.Functions place functions) h = All-map IsDeclared (λ f. f.0) functions h
functions_in _ h = All-nil IsDeclared

actions_in : (s : DomainSection) → IsDomainSection s → All IsName (action_names s)
actions_in (d.Action place w groups c e) h = All-cons IsName w [] h.0 (All-nil IsName)
actions_in _ h = All-nil IsName

objects_in : (s : ProblemSection) → IsSection s → All (IsGroup Names) (object_groups s)
objects_in (p.Objects place groups) h = h.each
objects_in _ h = All-nil (IsGroup Names)

-- ---- and all

module _ (domain : Domain) (h : IsDomain domain) where
  pub all_types_written : All (IsGroup Names) (all_types domain)
  all_types_written = gathered IsDomainSection (IsGroup Names) type_groups types_in domain.sections h.1

  pub all_constants_written : All (IsGroup Names) (all_constants domain)
  all_constants_written = gathered IsDomainSection (IsGroup Names) constant_groups constants_in domain.sections h.1

  pub all_predicates_written : All IsDeclared (all_predicates domain)
  all_predicates_written = gathered IsDomainSection IsDeclared declared_predicates predicates_in domain.sections h.1

  pub all_functions_written : All IsDeclared (all_functions domain)
  all_functions_written = gathered IsDomainSection IsDeclared declared_functions functions_in domain.sections h.1

  pub all_actions_written : All IsName (flat_map action_names domain.sections)
  all_actions_written = gathered IsDomainSection IsName action_names actions_in domain.sections h.1

pub all_objects_written : (problem : Problem) → IsProblem problem → All (IsGroup Names) (all_objects problem)
all_objects_written problem h = gathered IsSection (IsGroup Names) object_groups objects_in problem.sections h.1
