-- The types of objects and parameters are declared.
use Rattle.std.proofs.Common.{◌≡◌, ℕ, ◌<◌, refl, sym, ◌∙◌, ap, ap₂, arith, subst, List, [], ◌∷◌, ◌++◌, length, Option, Some, None}
use Rattle.std.specs.Prelude.{All, not, filter}
use Rattle.std.specs.List.{flat_map}
use Rattle.std.proofs.lemmas.Bool.{not-false}
use Rattle.std.proofs.lemmas.Grind.{flat_map-append}
use Rattle.std.proofs.lemmas.List.Elements.{All-nil, All-cons, All-append, All-map}
use Rattle.std.proofs.lemmas.List.Folds.{flat_map-map}
use Rattle.np_model.specs.declared.task.Object.{Object}
use Rattle.np_words.specs.declared.word.Word.{Word}
use Rattle.np_words.specs.declared.word.Group.{Group}
use Rattle.np_syntax.specs.declared.domain.Declared.{Declared}
use Rattle.np_syntax.specs.declared.domain.Domain.{Domain}
use Rattle.np_syntax.specs.declared.domain.DomainSection.{DomainSection}
use Rattle.np_syntax.specs.declared.domain.DomainSection.TheVariants as d
use Rattle.np_problem.specs.declared.problem.Problem.{Problem}
use Rattle.np_names.specs.Names.{is_among, typed, typed_words, given_word}
use Rattle.np_declared.specs.Types.{type_names, type_number, numbers_in, object_in, objects_in}
use Rattle.np_names.specs.Declarations.{constant_groups, declared_predicates, declared_functions, all_types, all_constants, all_predicates, all_functions, all_objects}
use Rattle.np_declared.specs.TypeRules.{unknown_in, section_unknown}
use Rattle.np_typing.specs.TaskOf.{task_of}
use Rattle.np_typing.proofs.keeping.DeclaredParts.{first_empty, second_empty, map_empty, BreaksNoRule}
use Rattle.np_typing.proofs.keeping.DeclaredLists.{filter_none}
use Rattle.np_typing.proofs.keeping.DeclaredNumbers.{number_below}
use Rattle.np_typing.proofs.keeping.DeclaredTypes.{types_begin, types_length}

-- a list of lists is empty where each is
pub flat_map_none : {A B : Type 0} (f : A → List B) (xs : List A) → flat_map f xs ≡ [] → All (λ x. f x ≡ []) xs
flat_map_none f [] e = All-nil (λ x. f x ≡ [])
flat_map_none f (x ∷ xs) e = All-cons (λ y. f y ≡ []) x xs (first_empty (f x) _ e) (flat_map_none f xs (second_empty (f x) _ e))

-- ---- the types of a typed list

module _ (types : List (List ℕ)) (some : 0 < length types) where
  below : (of : Option Word) → filter (λ w. not (is_among w.text types)) (given_word of) ≡ [] → type_number types of < length types
  below None e = some
  below (Some t) e = number_below types t.text (not-false _ (filter_none (λ w. not (is_among w.text types)) t [] e).0)

  pub typed_below : (groups : List Group) → unknown_in types groups ≡ [] → All (λ x. type_number types x.1 < length types) (typed_words groups)
  typed_below [] e = All-nil (λ x. type_number types x.1 < length types)
  typed_below (g ∷ groups) e =
      All-append (λ x. type_number types x.1 < length types) (typed g.of g.words) (typed_words groups)
      (All-map (λ x. type_number types x.1 < length types) (λ w. (w, g.of)) g.words (λ k d h. below g.of (first_empty (filter (λ w. not (is_among w.text types)) (given_word g.of)) _ e)))
      (typed_below groups (second_empty (filter (λ w. not (is_among w.text types)) (given_word g.of)) _ e))

  pub numbers_below : (groups : List Group) → unknown_in types groups ≡ [] → All (λ of. of < length types) (numbers_in types groups)
  numbers_below groups e = All-map (λ of. of < length types) (λ (x : Word × Option Word). type_number types x.1) (typed_words groups) (typed_below groups e)

  pub objects_below : (groups : List Group) → unknown_in types groups ≡ [] → All (λ o. o.of < length types) (objects_in types groups)
  objects_below groups e = All-map (λ (o : Object). o.of < length types) (object_in types) (typed_words groups) (typed_below groups e)

-- ---- of a domain

-- what each section gives has no unknown types
sections_known : {A B C : Type 0} (f : A → List B) (g : C → List A) (rule : C → List B) → ((s : C) → rule s ≡ [] → flat_map f (g s) ≡ []) → (ss : List C) → flat_map rule ss ≡ [] → flat_map f (flat_map g ss) ≡ []
sections_known f g rule step [] e = refl
sections_known f g rule step (s ∷ ss) e =
    flat_map-append f (g s) (flat_map g ss)
    ∙ ap₂ (λ xs ys. xs ++ ys) (step s (first_empty (rule s) _ e)) (sections_known f g rule step ss (second_empty (rule s) _ e))

constants_step : (types : List (List ℕ)) (s : DomainSection) → section_unknown types s ≡ [] → unknown_in types (constant_groups s) ≡ []
constants_step types (d.Constants place groups) e = e
constants_step types _ e = refl

predicates_step : (types : List (List ℕ)) (s : DomainSection) → section_unknown types s ≡ [] → flat_map (λ x. unknown_in types x.parameters) (declared_predicates s) ≡ []
predicates_step types (d.Predicates place declared) e = e
predicates_step types _ e = refl

functions_step : (types : List (List ℕ)) (s : DomainSection) → section_unknown types s ≡ [] → flat_map (λ x. unknown_in types x.parameters) (declared_functions s) ≡ []
functions_step types (d.Functions place functions) e = flat_map-map (λ (x : Declared). unknown_in types x.parameters) (λ f. f.0) functions ∙ e
functions_step types _ e = refl

pub some_types : (groups : List Group) → 0 < length (type_names groups)
some_types groups = let e = ap length (types_begin groups).1 in omega arith

module _ (domain : Domain) (problem : Problem) (h : BreaksNoRule domain problem) where
  abbrev names : List (List ℕ)
  names = type_names (all_types domain)

  pub sections_types_known : flat_map (section_unknown (type_names (all_types domain))) domain.sections ≡ []
  sections_types_known = map_empty _ _ h.known_types

  pub constants_known : unknown_in (type_names (all_types domain)) (all_constants domain) ≡ []
  constants_known = sections_known _ constant_groups (section_unknown names) (constants_step names) domain.sections sections_types_known

  pub predicates_known : All (λ x. unknown_in (type_names (all_types domain)) x.parameters ≡ []) (all_predicates domain)
  predicates_known =
      flat_map_none _ (all_predicates domain)
      (sections_known (λ (x : Declared). unknown_in names x.parameters) declared_predicates (section_unknown names) (predicates_step names) domain.sections sections_types_known)

  pub functions_known : All (λ x. unknown_in (type_names (all_types domain)) x.parameters ≡ []) (all_functions domain)
  functions_known =
      flat_map_none _ (all_functions domain)
      (sections_known (λ (x : Declared). unknown_in names x.parameters) declared_functions (section_unknown names) (functions_step names) domain.sections sections_types_known)

  pub objects_known : unknown_in (type_names (all_types domain)) (all_constants domain ++ all_objects problem) ≡ []
  objects_known = flat_map-append _ (all_constants domain) (all_objects problem) ∙ ap₂ (λ xs ys. xs ++ ys) constants_known (map_empty _ _ h.problem_known_types)

  pub declared_objects : All (λ o. o.of < length (task_of domain problem).types) (task_of domain problem).objects
  declared_objects =
      subst (λ n. All (λ (o : Object). o.of < n) (task_of domain problem).objects) (sym (types_length (all_types domain)))
      (objects_below names (some_types (all_types domain)) (all_constants domain ++ all_objects problem) objects_known)
