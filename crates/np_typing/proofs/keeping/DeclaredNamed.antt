-- The names of the task of a pair are names, and distinct.
use Rattle.std.proofs.Common.{◌≡◌, ℕ, Bool, true, false, refl, sym, ◌∙◌, ap, ap₂, subst, List, [], ◌∷◌, ◌++◌, map, get_or, Option}
use Rattle.std.specs.Prelude.{◌||◌, All, IsTrue, bytes_eq}
use Rattle.std.specs.List.{flat_map, IsDistinct}
use Rattle.std.proofs.lemmas.List.{map-append, map-id}
use Rattle.std.proofs.lemmas.List.Elements.{All-cons, All-head, All-tail, All-append, All-map, All-weaker}
use Rattle.std.proofs.lemmas.Option.{slice_get-get_or}
use Rattle.np_model.specs.declared.task.Action.{Action}
use Rattle.np_model.specs.declared.task.Object.{Object}
use Rattle.np_model.specs.declared.task.Signature.{Signature}
use Rattle.np_model.specs.Names.{is_name}
use Rattle.np_model.specs.Tasks.{AreNames, AreNamed}
use Rattle.np_model.proofs.Distinct.{distinct_texts}
use Rattle.np_words.specs.declared.word.Word.{Word}
use Rattle.np_words.specs.declared.word.Group.{Group}
use Rattle.np_syntax.specs.declared.domain.Declared.{Declared}
use Rattle.np_syntax.specs.declared.domain.Domain.{Domain}
use Rattle.np_syntax.specs.declared.domain.DomainSection.{DomainSection}
use Rattle.np_syntax.specs.declared.domain.DomainSection.TheVariants as d
use Rattle.np_syntax.specs.DomainText.{IsDeclared}
use Rattle.np_words.specs.Written.{IsName, IsGroup}
use Rattle.np_words.specs.declared.word.ListKind.TheVariants.{Names}
use Rattle.np_problem.specs.declared.problem.Problem.{Problem}
use Rattle.np_names.specs.declared.fault.Source.TheVariants.{Domain as InDomain}
use Rattle.np_names.specs.Names.{texts, is_among, words_of, typed, typed_words, object}
use Rattle.np_declared.specs.Types.{type_words, type_names, object_in, objects_in}
use Rattle.np_names.specs.Declarations.{action_names, all_types, all_constants, all_predicates, all_functions, all_objects, names_of}
use Rattle.np_typing.specs.Scopes.{Scope}
use Rattle.np_declared.specs.Symbols.{signature, all_touched, all_changed}
use Rattle.np_typing.specs.TaskOf.{scope_of, section_actions, task_of}
use Rattle.np_typing.specs.Typing.{IsSpelledPair}
use Rattle.np_typing.proofs.keeping.DeclaredParts.{map_empty, BreaksNoRule}
use Rattle.np_typing.proofs.keeping.DeclaredLists.{map_twice, texts_append}
use Rattle.np_typing.proofs.keeping.DeclaredNames.{name_kept}
use Rattle.np_typing.proofs.keeping.DeclaredNumbers.{same_text, among_at, firsts_all, firsts_distinct}
use Rattle.np_typing.proofs.keeping.DeclaredOnce.{predicates_once, functions_once, actions_once, objects_once}
use Rattle.np_typing.proofs.keeping.DeclaredTypes.{types_names}
use Rattle.np_typing.proofs.keeping.DeclaredWords.{words_named, types_named, all_types_written, all_constants_written, all_predicates_written, all_functions_written, all_actions_written, all_objects_written}

abbrev IsTaskName : List ℕ → Type 0
IsTaskName n = IsTrue (is_name n)

names_from_words : (ws : List Word) → All IsName ws → All IsTaskName (texts ws)
names_from_words ws h = All-map IsTaskName (λ w. w.text) ws (All-weaker IsName (λ w. IsTaskName w.text) (λ w k. name_kept w.text k) ws h)

all_among : (P : List ℕ → Type 0) (names : List (List ℕ)) → All P names → (m : List ℕ) → is_among m names ≡ true → P m
all_among P [] h m e = cc
all_among P (n ∷ names) h m e = by (bytes_eq m n) refl (all_among P names (All-tail P n names h) m) e
  where
    by : (b : Bool) → bytes_eq m n ≡ b → (is_among m names ≡ true → P m) → (b || is_among m names) ≡ true → P m
    by true is rest e = subst P (sym (same_text m n is)) (All-head P n names h)
    by false is rest e = rest e

are_names : (names : List (List ℕ)) (ws : List Word) → names ≡ texts ws → All IsName ws → IsDistinct bytes_eq (texts ws) → AreNames names
are_names names ws e h once = subst AreNames (sym e) (record { spelled = names_from_words ws h; distinct = distinct_texts (texts ws) once })

-- ---- types

types_spelled : (groups : List Group) → All IsName (flat_map type_words groups) → All IsTaskName (type_names groups)
types_spelled groups h k d within =
    firsts_all IsTaskName (object ∷ texts (flat_map type_words groups))
    (all_among IsTaskName (object ∷ texts (flat_map type_words groups)) (All-cons IsTaskName object (texts (flat_map type_words groups)) refl (names_from_words (flat_map type_words groups) h)))
    (get_or (type_names groups) k d) (among_at (type_names groups) k (get_or (type_names groups) k d) (slice_get-get_or (type_names groups) k d within))

-- ---- objects

pub typed_words_are : (groups : List Group) → map (λ x. x.0) (typed_words groups) ≡ words_of groups
typed_words_are [] = refl
typed_words_are (g ∷ groups) =
    map-append (λ (x : Word × Option Word). x.0) (typed g.of g.words) (typed_words groups)
    ∙ ap₂ (λ xs ys. xs ++ ys) (map_twice (λ (w : Word). (w, g.of)) (λ (x : Word × Option Word). x.0) g.words ∙ map-id g.words) (typed_words_are groups)

pub objects_names : (types : List (List ℕ)) (groups : List Group) → map (λ o. o.name) (objects_in types groups) ≡ texts (words_of groups)
objects_names types groups =
    map_twice (object_in types) (λ (o : Object). o.name) (typed_words groups)
    ∙ sym (map_twice (λ (x : Word × Option Word). x.0) (λ (w : Word). w.text) (typed_words groups))
    ∙ ap texts (typed_words_are groups)

-- ---- predicates and functions

pub signatures_names : (types : List (List ℕ)) (named : List (List ℕ)) (declared : List Declared) → map (λ s. s.name) (map (signature types named) declared) ≡ texts (names_of declared)
signatures_names types named declared =
    map_twice (signature types named) (λ (s : Signature). s.name) declared ∙ sym (map_twice (λ (x : Declared). x.name) (λ (w : Word). w.text) declared)

declared_words : (declared : List Declared) → All IsDeclared declared → All IsName (names_of declared)
declared_words declared h = All-map IsName (λ x. x.name) declared (All-weaker IsDeclared (λ x. IsName x.name) (λ x k. k.0) declared h)

-- ---- actions

section_action_names : (scope : Scope) (s : DomainSection) → map (λ a. a.name) (section_actions scope s) ≡ texts (action_names s)
section_action_names scope (d.Action place w groups c e) = refl
section_action_names scope _ = refl

pub actions_names : (scope : Scope) (ss : List DomainSection) → map (λ a. a.name) (flat_map (section_actions scope) ss) ≡ texts (flat_map action_names ss)
actions_names scope [] = refl
actions_names scope (s ∷ ss) =
    map-append (λ (a : Action). a.name) (section_actions scope s) (flat_map (section_actions scope) ss)
    ∙ ap₂ (λ xs ys. xs ++ ys) (section_action_names scope s) (actions_names scope ss)
    ∙ sym (texts_append (action_names s) (flat_map action_names ss))

-- ---- the task

pub declared_named : (domain : Domain) (problem : Problem) → IsSpelledPair domain problem → BreaksNoRule domain problem → AreNamed (task_of domain problem)
declared_named domain problem spelled h = record {
  types = subst AreNames (sym (types_names (all_types domain))) (record {
    spelled = types_spelled (all_types domain) (types_named (all_types domain) (all_types_written domain spelled.is_domain));
    distinct = distinct_texts (type_names (all_types domain)) (firsts_distinct (object ∷ texts (flat_map type_words (all_types domain))));
  });
  objects = are_names _ (words_of (all_constants domain ++ all_objects problem)) (objects_names (type_names (all_types domain)) (all_constants domain ++ all_objects problem))
      (words_named (all_constants domain ++ all_objects problem)
      (All-append (IsGroup Names) (all_constants domain) (all_objects problem) (all_constants_written domain spelled.is_domain) (all_objects_written problem spelled.is_problem)))
      (objects_once domain problem h);
  predicates = are_names _ (names_of (all_predicates domain)) (signatures_names (type_names (all_types domain)) (texts (all_touched domain)) (all_predicates domain))
      (declared_words (all_predicates domain) (all_predicates_written domain spelled.is_domain)) (predicates_once domain (map_empty _ _ h.names_once));
  functions = are_names _ (names_of (all_functions domain)) (signatures_names (type_names (all_types domain)) (texts (all_changed domain)) (all_functions domain))
      (declared_words (all_functions domain) (all_functions_written domain spelled.is_domain)) (functions_once domain (map_empty _ _ h.names_once));
  actions = are_names _ (flat_map action_names domain.sections) (actions_names (scope_of InDomain domain problem) domain.sections)
      (all_actions_written domain spelled.is_domain) (actions_once domain (map_empty _ _ h.names_once));
}
