-- What a domain and a problem declare, and which names come again.
use Rattle.std.specs.Prelude.{ℕ, not, List, [], ◌∷◌, ◌++◌, map, filter, Option, None, Some}
use Rattle.std.specs.List.{flat_map}
use Rattle.np_words.specs.declared.word.Word.{Word}
use Rattle.np_words.specs.declared.word.Group.{Group}
use Rattle.np_syntax.specs.declared.domain.Declared.{Declared}
use Rattle.np_syntax.specs.declared.domain.Domain.{Domain}
use Rattle.np_syntax.specs.declared.domain.DomainSection.{DomainSection}
use Rattle.np_syntax.specs.declared.domain.DomainSection.TheVariants as d
use Rattle.np_problem.specs.declared.problem.Problem.{Problem}
use Rattle.np_problem.specs.declared.problem.ProblemSection.{ProblemSection}
use Rattle.np_problem.specs.declared.problem.ProblemSection.TheVariants as p
use Rattle.np_names.specs.declared.fault.TypeFault.{TypeFault}
use Rattle.np_names.specs.declared.fault.Source.TheVariants.{Domain as InDomain, Problem as InProblem}
use Rattle.np_names.specs.declared.fault.TypeWhy.TheVariants.{NameTwice}
use Rattle.np_names.specs.Names.{each_after, texts, repeats, words_of, given, is_object}
use Rattle.np_names.specs.Faults.{faults_of}

-- ---- what each section declares

abbrev pub type_groups : DomainSection → List Group
type_groups (d.Types place groups) = groups
type_groups _ = []

abbrev pub constant_groups : DomainSection → List Group
constant_groups (d.Constants place groups) = groups
constant_groups _ = []

abbrev pub declared_predicates : DomainSection → List Declared
declared_predicates (d.Predicates place declared) = declared
declared_predicates _ = []

-- the flag beside a function, that `- number` follows it, says nothing
abbrev pub declared_functions : DomainSection → List Declared
declared_functions (d.Functions place functions) = map (λ f. f.0) functions
declared_functions _ = []

abbrev pub action_names : DomainSection → List Word
action_names (d.Action place w groups c e) = w ∷ []
action_names _ = []

abbrev pub object_groups : ProblemSection → List Group
object_groups (p.Objects place groups) = groups
object_groups _ = []

-- ---- and all of them

abbrev pub all_types : Domain → List Group
all_types domain = flat_map type_groups domain.sections

abbrev pub all_constants : Domain → List Group
all_constants domain = flat_map constant_groups domain.sections

abbrev pub all_predicates : Domain → List Declared
all_predicates domain = flat_map declared_predicates domain.sections

abbrev pub all_functions : Domain → List Declared
all_functions domain = flat_map declared_functions domain.sections

abbrev pub all_objects : Problem → List Group
all_objects problem = flat_map object_groups problem.sections

-- ---- names that come again

-- the types that words before this supertype list; `object` without a supertype says nothing
abbrev pub listed_under : Option Word → List Word → List Word
listed_under (Some over) words = words
listed_under None words = filter (λ w. not (is_object w)) words

abbrev pub listed_types : List Group → List Word
listed_types groups = flat_map (λ g. listed_under g.of g.words) groups

abbrev pub names_of : List Declared → List Word
names_of declared = map (λ x. x.name) declared

-- what predicates or functions repeat after these names: of each its name, then its parameters among themselves
abbrev pub declared_repeats : List (List ℕ) → List Declared → List Word
declared_repeats names [] = []
declared_repeats names (x ∷ xs) = repeats names (x.name ∷ []) ++ (repeats [] (words_of x.parameters) ++ declared_repeats (names ++ x.name.text ∷ []) xs)

-- what a section repeats after those before it
abbrev pub section_repeats : List DomainSection → DomainSection → List Word
section_repeats before (d.Requirements place words) = []
section_repeats before (d.Types place groups) = repeats (texts (listed_types (flat_map type_groups before))) (listed_types groups)
section_repeats before (d.Constants place groups) = repeats (texts (words_of (flat_map constant_groups before))) (words_of groups)
section_repeats before (d.Predicates place declared) = declared_repeats (texts (names_of (flat_map declared_predicates before))) declared
section_repeats before (d.Functions place functions) = declared_repeats (texts (names_of (flat_map declared_functions before))) (map (λ f. f.0) functions)
section_repeats before (d.Action place w groups c e) = repeats (texts (flat_map action_names before)) (w ∷ []) ++ repeats [] (words_of (given groups))

abbrev pub names_twice : Domain → List TypeFault
names_twice domain = faults_of InDomain NameTwice (each_after section_repeats [] domain.sections)

-- the objects of a problem come after the domain's constants
abbrev pub problem_names_twice : Domain → Problem → List TypeFault
problem_names_twice domain problem = faults_of InProblem NameTwice (repeats (texts (words_of (all_constants domain))) (words_of (all_objects problem)))
