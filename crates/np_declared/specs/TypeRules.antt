-- The rules on types: none is under itself, and each is declared.
use Rattle.std.specs.Prelude.{ℕ, Bool, not, List, [], map, filter, is_some, Option, if◌then◌else◌}
use Rattle.std.specs.List.{flat_map}
use Rattle.np_model.specs.declared.task.TypeName.{TypeName}
use Rattle.np_model.specs.Types.{parent_of, is_under}
use Rattle.np_words.specs.declared.word.Word.{Word}
use Rattle.np_words.specs.declared.word.Group.{Group}
use Rattle.np_syntax.specs.declared.domain.Domain.{Domain}
use Rattle.np_syntax.specs.declared.domain.DomainSection.{DomainSection}
use Rattle.np_syntax.specs.declared.domain.DomainSection.TheVariants as d
use Rattle.np_problem.specs.declared.problem.Problem.{Problem}
use Rattle.np_names.specs.declared.fault.TypeFault.{TypeFault}
use Rattle.np_names.specs.declared.fault.Source.TheVariants.{Domain as InDomain, Problem as InProblem}
use Rattle.np_names.specs.declared.fault.TypeWhy.TheVariants.{TypeCycle, UnknownType}
use Rattle.np_names.specs.Names.{is_among, number_of, given_word, given, is_object}
use Rattle.np_declared.specs.Types.{type_names, types_of}
use Rattle.np_names.specs.Faults.{faults_of}
use Rattle.np_names.specs.Declarations.{all_types, all_objects}

-- ---- types in a circle

-- a type is under itself: the type that it is under is it again, or under it
abbrev pub is_under_itself : List TypeName → ℕ → Bool
is_under_itself types n = is_under types (parent_of types n) n

-- a word that is listed under this supertype, or under none, is a type under itself, or it is `object` and listed under a type
abbrev pub is_cyclic : List TypeName → Option Word → Word → Bool
is_cyclic types over w = if is_object w then is_some over else is_under_itself types (number_of (map (λ t. t.name) types) w.text)

abbrev pub cyclic_words : List TypeName → List Group → List Word
cyclic_words types groups = flat_map (λ g. filter (is_cyclic types g.of) g.words) groups

abbrev pub type_cycles : Domain → List TypeFault
type_cycles domain = faults_of InDomain TypeCycle (cyclic_words (types_of (all_types domain)) (all_types domain))

-- ---- types that aren't declared

-- the types in a typed list that aren't among these
abbrev pub unknown_in : List (List ℕ) → List Group → List Word
unknown_in types groups = flat_map (λ g. filter (λ w. not (is_among w.text types)) (given_word g.of)) groups

abbrev pub section_unknown : List (List ℕ) → DomainSection → List Word
section_unknown types (d.Requirements place words) = []
section_unknown types (d.Types place groups) = []
section_unknown types (d.Constants place groups) = unknown_in types groups
section_unknown types (d.Predicates place declared) = flat_map (λ x. unknown_in types x.parameters) declared
section_unknown types (d.Functions place functions) = flat_map (λ f. unknown_in types f.0.parameters) functions
section_unknown types (d.Action place w groups c e) = unknown_in types (given groups)

abbrev pub unknown_types : Domain → List TypeFault
unknown_types domain = faults_of InDomain UnknownType (flat_map (section_unknown (type_names (all_types domain))) domain.sections)

abbrev pub problem_unknown_types : Domain → Problem → List TypeFault
problem_unknown_types domain problem = faults_of InProblem UnknownType (unknown_in (type_names (all_types domain)) (all_objects problem))
