-- A pair without faults breaks no rule: each rule's list is empty.
use Rattle.std.proofs.Common.{◌≡◌, refl, List, [], ◌∷◌, ◌++◌, map}
use Rattle.std.specs.List.{flat_map}
use Rattle.np_syntax.specs.declared.domain.Domain.{Domain}
use Rattle.np_problem.specs.declared.problem.Problem.{Problem}
use Rattle.np_names.specs.Sections.{sections_twice, problem_sections_twice, sections_missing, other_domains}
use Rattle.np_names.specs.Declarations.{names_twice, problem_names_twice}
use Rattle.np_declared.specs.TypeRules.{type_cycles, unknown_types, problem_unknown_types}
use Rattle.np_names.specs.Sections.{section_faults}
use Rattle.np_declared.specs.Rules.{declaration_faults}
use Rattle.np_typing.specs.Rules.{use_faults, problem_use_faults, all_faults}

-- ---- empty lists

pub first_empty : {A : Type 0} (xs ys : List A) → xs ++ ys ≡ [] → xs ≡ []
first_empty [] ys e = refl
first_empty (x ∷ xs) ys e = cc

pub second_empty : {A : Type 0} (xs ys : List A) → xs ++ ys ≡ [] → ys ≡ []
second_empty [] ys e = e
second_empty (x ∷ xs) ys e = cc

pub map_empty : {A B : Type 0} (f : A → B) (xs : List A) → map f xs ≡ [] → xs ≡ []
map_empty f [] e = refl
map_empty f (x ∷ xs) e = cc

-- ---- each rule's list

pub record BreaksNoRule (domain : Domain) (problem : Problem) : Type 0 where
  pub sections_once : sections_twice domain ≡ []
  pub problem_sections_once : problem_sections_twice problem ≡ []
  pub none_missing : sections_missing problem ≡ []
  pub one_domain : other_domains domain problem ≡ []
  pub names_once : names_twice domain ≡ []
  pub problem_names_once : problem_names_twice domain problem ≡ []
  pub no_cycles : type_cycles domain ≡ []
  pub known_types : unknown_types domain ≡ []
  pub problem_known_types : problem_unknown_types domain problem ≡ []
  pub uses_fit : use_faults domain problem ≡ []
  pub problem_uses_fit : problem_use_faults domain problem ≡ []

pub breaks_no_rule : (domain : Domain) (problem : Problem) → all_faults domain problem ≡ [] → BreaksNoRule domain problem
breaks_no_rule domain problem e =
    let sections : section_faults domain problem ≡ [] = first_empty _ _ e in
    let others : declaration_faults domain problem ++ (use_faults domain problem ++ problem_use_faults domain problem) ≡ [] = second_empty (section_faults domain problem) _ e in
    let sections_two : problem_sections_twice problem ++ (sections_missing problem ++ other_domains domain problem) ≡ [] = second_empty (sections_twice domain) _ sections in
    let sections_three : sections_missing problem ++ other_domains domain problem ≡ [] = second_empty (problem_sections_twice problem) _ sections_two in
    let declarations : declaration_faults domain problem ≡ [] = first_empty _ _ others in
    let uses : use_faults domain problem ++ problem_use_faults domain problem ≡ [] = second_empty (declaration_faults domain problem) _ others in
    let names : problem_names_twice domain problem ++ (type_cycles domain ++ (unknown_types domain ++ problem_unknown_types domain problem)) ≡ [] = second_empty (names_twice domain) _ declarations in
    let types : type_cycles domain ++ (unknown_types domain ++ problem_unknown_types domain problem) ≡ [] = second_empty (problem_names_twice domain problem) _ names in
    let unknown : unknown_types domain ++ problem_unknown_types domain problem ≡ [] = second_empty (type_cycles domain) _ types in
    record {
      sections_once = first_empty _ _ sections;
      problem_sections_once = first_empty _ _ sections_two;
      none_missing = first_empty _ _ sections_three;
      one_domain = second_empty (sections_missing problem) _ sections_three;
      names_once = first_empty _ _ declarations;
      problem_names_once = first_empty _ _ names;
      no_cycles = first_empty _ _ types;
      known_types = first_empty _ _ unknown;
      problem_known_types = second_empty (unknown_types domain) _ unknown;
      uses_fit = first_empty _ _ uses;
      problem_uses_fit = second_empty (use_faults domain problem) _ uses;
    }

pub flat_map_empty : {A B : Type 0} (f : A → List B) (x : A) (xs : List A) → flat_map f (x ∷ xs) ≡ [] → (f x ≡ []) × (flat_map f xs ≡ [])
flat_map_empty f x xs e = (first_empty (f x) (flat_map f xs) e, second_empty (f x) (flat_map f xs) e)
