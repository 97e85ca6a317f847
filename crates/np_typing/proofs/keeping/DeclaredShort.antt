-- The lists of the task of a pair are short.
use Rattle.std.proofs.Common.{suc, ◌+◌, ◌<◌, ◌≤◌, ◌^◌, Bool, true, false, ap, arith, List, [], ◌∷◌, ◌++◌, length, length-append, map}
use Rattle.std.specs.Prelude.{fold, if◌then◌else◌}
use Rattle.std.specs.List.{flat_map}
use Rattle.std.proofs.lemmas.List.{length-map}
use Rattle.std.proofs.lemmas.Grind.{flat_map-append}
use Rattle.np_model.specs.declared.task.Atom.{Atom}
use Rattle.np_model.specs.Tasks.{AreShort}
use Rattle.np_model.specs.States as state
use Rattle.np_words.specs.declared.word.Group.{Group}
use Rattle.np_syntax.specs.declared.domain.Declared.{Declared}
use Rattle.np_syntax.specs.declared.domain.Domain.{Domain}
use Rattle.np_syntax.specs.declared.domain.DomainSection.{DomainSection}
use Rattle.np_syntax.specs.declared.domain.DomainSection.TheVariants as d
use Rattle.np_problem.specs.declared.problem.Fact.{Fact}
use Rattle.np_problem.specs.declared.problem.Fact.TheVariants as fact
use Rattle.np_problem.specs.declared.problem.Problem.{Problem}
use Rattle.np_problem.specs.declared.problem.ProblemSection.{ProblemSection}
use Rattle.np_problem.specs.declared.problem.ProblemSection.TheVariants as p
use Rattle.np_names.specs.declared.fault.Source.TheVariants.{Domain as InDomain, Problem as InProblem}
use Rattle.np_names.specs.Names.{texts, words_of, typed_words, object}
use Rattle.np_declared.specs.Types.{type_words, type_names, object_in}
use Rattle.np_names.specs.Declarations.{type_groups, constant_groups, declared_predicates, declared_functions, object_groups, all_types, all_constants, all_predicates, all_functions, all_objects}
use Rattle.np_typing.specs.Scopes.{Scope}
use Rattle.np_typing.specs.Resolved.{conditions_of}
use Rattle.np_typing.specs.Facts.{fact_atoms, fact_values, with_atom, atoms_of, values_of}
use Rattle.np_declared.specs.Symbols.{signature, all_touched, all_changed}
use Rattle.np_typing.specs.TaskOf.{section_actions, section_facts, section_goals, scope_of, task_of}
use Rattle.np_typing.specs.Typing.{IsSpelledPair}
use Rattle.np_typing.proofs.keeping.DeclaredLists.{every, flat_map_twice}
use Rattle.np_typing.proofs.keeping.DeclaredNumbers.{firsts_length}
use Rattle.np_typing.proofs.keeping.DeclaredTypes.{types_length}
use Rattle.np_typing.proofs.keeping.DeclaredSizes.{total, flat_map_within, conditions_few}
use Rattle.np_typing.proofs.keeping.DeclaredLengths.{ones, typed_length, declared_size, section_size, problem_section_size, few_together}

-- ---- the domain

types_step : (s : DomainSection) → length (flat_map type_words (type_groups s)) ≤ section_size s
types_step (d.Types place gs) = omega arith
types_step _ = omega arith

all_types_few : (domain : Domain) → length (type_names (all_types domain)) ≤ suc (total section_size domain.sections)
all_types_few domain =
    let a = firsts_length (object ∷ texts (flat_map type_words (all_types domain))) in
    let b = length-map (flat_map type_words (all_types domain)) (λ w. w.text) in
    let e = ap length (flat_map_twice type_groups type_words domain.sections) in
    let f = flat_map_within (λ s. flat_map type_words (type_groups s)) section_size domain.sections (every (λ s. length (flat_map type_words (type_groups s)) ≤ section_size s) types_step domain.sections) in omega arith

constants_step : (s : DomainSection) → length (words_of (constant_groups s)) ≤ section_size s
constants_step (d.Constants place gs) = omega arith
constants_step _ = omega arith

all_constants_few : (domain : Domain) → length (words_of (all_constants domain)) ≤ total section_size domain.sections
all_constants_few domain =
    let e = ap length (flat_map_twice constant_groups (λ g. g.words) domain.sections) in
    let f = flat_map_within (λ s. words_of (constant_groups s)) section_size domain.sections (every (λ s. length (words_of (constant_groups s)) ≤ section_size s) constants_step domain.sections) in omega arith

declared_few : (ds : List Declared) → length ds ≤ total declared_size ds
declared_few [] = omega arith
declared_few (x ∷ ds) = let h = declared_few ds in omega arith

functions_few : (fs : List (Declared × Bool)) → length (map (λ f. f.0) fs) ≤ total (λ f. declared_size f.0) fs
functions_few [] = omega arith
functions_few (x ∷ fs) = let h = functions_few fs in omega arith

predicates_step : (s : DomainSection) → length (declared_predicates s) ≤ section_size s
predicates_step (d.Predicates place ds) = declared_few ds
predicates_step _ = omega arith

functions_step : (s : DomainSection) → length (declared_functions s) ≤ section_size s
functions_step (d.Functions place fs) = functions_few fs
functions_step _ = omega arith

actions_step : (scope : Scope) (s : DomainSection) → length (section_actions scope s) ≤ section_size s
actions_step scope (d.Action place w gs c e) = omega arith
actions_step scope _ = omega arith

all_predicates_few : (domain : Domain) → length (all_predicates domain) ≤ total section_size domain.sections
all_predicates_few domain = flat_map_within declared_predicates section_size domain.sections (every (λ s. length (declared_predicates s) ≤ section_size s) predicates_step domain.sections)

all_functions_few : (domain : Domain) → length (all_functions domain) ≤ total section_size domain.sections
all_functions_few domain = flat_map_within declared_functions section_size domain.sections (every (λ s. length (declared_functions s) ≤ section_size s) functions_step domain.sections)

all_actions_few : (scope : Scope) (domain : Domain) → length (flat_map (section_actions scope) domain.sections) ≤ total section_size domain.sections
all_actions_few scope domain = flat_map_within (section_actions scope) section_size domain.sections (every (λ s. length (section_actions scope s) ≤ section_size s) (actions_step scope) domain.sections)

-- ---- the problem

objects_step : (s : ProblemSection) → length (words_of (object_groups s)) ≤ problem_section_size s
objects_step (p.Objects place gs) = omega arith
objects_step _ = omega arith

all_objects_few : (problem : Problem) → length (words_of (all_objects problem)) ≤ total problem_section_size problem.sections
all_objects_few problem =
    let e = ap length (flat_map_twice object_groups (λ g. g.words) problem.sections) in
    let f = flat_map_within (λ s. words_of (object_groups s)) problem_section_size problem.sections (every (λ s. length (words_of (object_groups s)) ≤ problem_section_size s) objects_step problem.sections) in omega arith

facts_step : (s : ProblemSection) → length (section_facts s) ≤ problem_section_size s
facts_step (p.Init place facts) = omega arith
facts_step _ = omega arith

all_facts_few : (problem : Problem) → length (flat_map section_facts problem.sections) ≤ total problem_section_size problem.sections
all_facts_few problem = flat_map_within section_facts problem_section_size problem.sections (every (λ s. length (section_facts s) ≤ problem_section_size s) facts_step problem.sections)

goals_step : (scope : Scope) (s : ProblemSection) → length (flat_map (conditions_of scope) (section_goals s)) ≤ problem_section_size s
goals_step scope (p.Goal place c) = let h = conditions_few scope c in let e = length-append (conditions_of scope c) [] in omega arith
goals_step scope _ = omega arith

all_goals_few : (scope : Scope) (problem : Problem) → length (flat_map (conditions_of scope) (flat_map section_goals problem.sections)) ≤ total problem_section_size problem.sections
all_goals_few scope problem =
    let e = ap length (flat_map_twice section_goals (conditions_of scope) problem.sections) in
    let f = flat_map_within (λ s. flat_map (conditions_of scope) (section_goals s)) problem_section_size problem.sections
    (every (λ s. length (flat_map (conditions_of scope) (section_goals s)) ≤ problem_section_size s) (goals_step scope) problem.sections) in omega arith

atoms_from : (scope : Scope) (before atoms : List Atom) → length (fold (with_atom scope) before atoms) ≤ length before + length atoms
atoms_from scope before [] = omega arith
atoms_from scope before (a ∷ atoms) = by (state.is_among before a) (λ xs. atoms_from scope xs atoms)
  where
    by : (b : Bool) → ((xs : List Atom) → length (fold (with_atom scope) xs atoms) ≤ length xs + length atoms)
        → length (fold (with_atom scope) (if b then before else before ++ a ∷ []) atoms) ≤ length before + length (a ∷ atoms)
    by true h = let k = h before in omega arith
    by false h = let k = h (before ++ a ∷ []) in let e = length-append before (a ∷ []) in omega arith

module _ (scope : Scope) where
  atoms_step : (f : Fact) → length (fact_atoms scope f) ≤ 1
  atoms_step (fact.Atom w words) = omega arith
  atoms_step (fact.NotAtom w words) = omega arith
  atoms_step (fact.Value w words alone n) = omega arith

  values_step : (f : Fact) → length (fact_values scope f) ≤ 1
  values_step (fact.Atom w words) = omega arith
  values_step (fact.NotAtom w words) = omega arith
  values_step (fact.Value w words alone n) = omega arith

  atoms_few : (facts : List Fact) → length (atoms_of scope facts) ≤ length facts
  atoms_few facts =
      let a = atoms_from scope [] (flat_map (fact_atoms scope) facts) in
      let b = flat_map_within (fact_atoms scope) (λ _. 1) facts (every (λ f. length (fact_atoms scope f) ≤ 1) atoms_step facts) in
      let e = ones facts in omega arith

  values_few : (facts : List Fact) → length (values_of scope facts) ≤ length facts
  values_few facts = let b = flat_map_within (fact_values scope) (λ _. 1) facts (every (λ f. length (fact_values scope f) ≤ 1) values_step facts) in let e = ones facts in omega arith

-- ---- the task

pub declared_short : (domain : Domain) (problem : Problem) → IsSpelledPair domain problem → AreShort (task_of domain problem)
declared_short domain problem spelled =
    let few : total section_size domain.sections + total problem_section_size problem.sections < 2 ^ 31 = few_together domain problem spelled in
    let names = type_names (all_types domain) in
    let groups = all_constants domain ++ all_objects problem in
    record {
      types = let e = types_length (all_types domain) in let h = all_types_few domain in omega arith;
      objects =
          let e = length-map (typed_words (all_constants domain ++ all_objects problem)) (object_in (type_names (all_types domain))) in
          let f = typed_length (all_constants domain ++ all_objects problem) in
          let g = ap length (flat_map-append (λ (x : Group). x.words) (all_constants domain) (all_objects problem)) in
          let i = length-append (words_of (all_constants domain)) (words_of (all_objects problem)) in
          let h = all_constants_few domain in let k = all_objects_few problem in omega arith;
      predicates = let e = length-map (all_predicates domain) (signature (type_names (all_types domain)) (texts (all_touched domain))) in let h = all_predicates_few domain in omega arith;
      functions = let e = length-map (all_functions domain) (signature (type_names (all_types domain)) (texts (all_changed domain))) in let h = all_functions_few domain in omega arith;
      actions = let h = all_actions_few (scope_of InDomain domain problem) domain in omega arith;
      atoms = let h = atoms_few (scope_of InProblem domain problem) (flat_map section_facts problem.sections) in let k = all_facts_few problem in omega arith;
      values = let h = values_few (scope_of InProblem domain problem) (flat_map section_facts problem.sections) in let k = all_facts_few problem in omega arith;
      goal = let h = all_goals_few (scope_of InProblem domain problem) problem in omega arith;
    }
