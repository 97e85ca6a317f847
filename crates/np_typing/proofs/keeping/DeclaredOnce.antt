-- Names that no rule finds again are distinct.
use Rattle.std.proofs.Common.{◌≡◌, ℕ, Bool, true, false, refl, sym, ◌∙◌, ap, subst, List, [], ◌∷◌, ◌++◌, map, append_assoc}
use Rattle.std.specs.Prelude.{bytes_eq, if◌then◌else◌}
use Rattle.std.specs.List.{flat_map, IsDistinct}
use Rattle.std.proofs.lemmas.Cmp.{nat_list_eq_equiv}
use Rattle.std.proofs.lemmas.Grind.{flat_map-append}
use Rattle.std.proofs.lemmas.List.{append-nil, map-append}
use Rattle.std.proofs.lemmas.Map.Keys.{IsDistinct-push}
use Rattle.np_words.specs.declared.word.Word.{Word}
use Rattle.np_words.specs.declared.word.Group.{Group}
use Rattle.np_syntax.specs.declared.domain.Declared.{Declared}
use Rattle.np_syntax.specs.declared.domain.Domain.{Domain}
use Rattle.np_syntax.specs.declared.domain.DomainSection.{DomainSection}
use Rattle.np_syntax.specs.declared.domain.DomainSection.TheVariants as d
use Rattle.np_problem.specs.declared.problem.Problem.{Problem}
use Rattle.np_names.specs.Names.{each_after, texts, is_among, repeats, words_of}
use Rattle.np_names.specs.Declarations.{constant_groups, declared_predicates, declared_functions, action_names, all_constants, all_predicates, all_functions, all_objects, names_of, declared_repeats, section_repeats}
use Rattle.np_typing.proofs.keeping.DeclaredParts.{first_empty, second_empty, map_empty, BreaksNoRule}
use Rattle.np_typing.proofs.keeping.DeclaredLists.{flat_map_more, texts_append}

-- words that repeat nothing
repeats_none : (names : List (List ℕ)) (ws : List Word) → IsDistinct bytes_eq names → repeats names ws ≡ [] → IsDistinct bytes_eq (names ++ texts ws)
repeats_none names [] h e = subst (IsDistinct bytes_eq) (sym (append-nil names)) h
repeats_none names (w ∷ ws) h e =
    subst (IsDistinct bytes_eq) (append_assoc names (w.text ∷ []) (texts ws))
    (repeats_none (names ++ w.text ∷ []) ws
    (IsDistinct-push nat_list_eq_equiv names w.text h (by (is_among w.text names) refl (first_empty (if is_among w.text names then w ∷ [] else []) _ e)))
    (second_empty (if is_among w.text names then w ∷ [] else []) _ e))
  where
    by : (b : Bool) → is_among w.text names ≡ b → (if b then w ∷ [] else []) ≡ [] → is_among w.text names ≡ false
    by true is none = cc
    by false is none = is

-- what stays distinct with each item that repeats nothing of those before stays so with all
distinct_after : {A B : Type 0} (gather : List A → List (List ℕ)) (again : List A → A → List B)
    → ((before : List A) (x : A) → again before x ≡ [] → IsDistinct bytes_eq (gather before) → IsDistinct bytes_eq (gather (before ++ x ∷ [])))
    → (before xs : List A) → IsDistinct bytes_eq (gather before) → each_after again before xs ≡ [] → IsDistinct bytes_eq (gather (before ++ xs))
distinct_after gather again more before [] h e = subst (λ ys. IsDistinct bytes_eq (gather ys)) (sym (append-nil before)) h
distinct_after gather again more before (x ∷ xs) h e =
    subst (λ ys. IsDistinct bytes_eq (gather ys)) (append_assoc before (x ∷ []) xs)
    (distinct_after gather again more (before ++ x ∷ []) xs (more before x (first_empty (again before x) _ e) h) (second_empty (again before x) _ e))

no_names : IsDistinct {K = List ℕ} bytes_eq []
unfolding IsDistinct
no_names = tt

-- ---- constants and objects

words_more : (xs ys : List Group) → texts (words_of (xs ++ ys)) ≡ texts (words_of xs) ++ texts (words_of ys)
words_more xs ys = ap texts (flat_map-append (λ g. g.words) xs ys) ∙ texts_append (words_of xs) (words_of ys)

constants_step : (before : List DomainSection) (s : DomainSection) → section_repeats before s ≡ [] → IsDistinct bytes_eq (texts (words_of (flat_map constant_groups before)))
    → IsDistinct bytes_eq (texts (words_of (flat_map constant_groups before)) ++ texts (words_of (constant_groups s)))
constants_step before (d.Constants place groups) e h = repeats_none _ (words_of groups) h e
constants_step before _ e h = subst (IsDistinct bytes_eq) (sym (append-nil _)) h

constants_more : (before : List DomainSection) (s : DomainSection) → section_repeats before s ≡ [] → IsDistinct bytes_eq (texts (words_of (flat_map constant_groups before)))
    → IsDistinct bytes_eq (texts (words_of (flat_map constant_groups (before ++ s ∷ []))))
constants_more before s e h =
    subst (IsDistinct bytes_eq) (sym (ap (λ gs. texts (words_of gs)) (flat_map_more constant_groups before s) ∙ words_more (flat_map constant_groups before) (constant_groups s)))
    (constants_step before s e h)

pub constants_once : (domain : Domain) → each_after section_repeats [] domain.sections ≡ [] → IsDistinct bytes_eq (texts (words_of (all_constants domain)))
constants_once domain e = distinct_after (λ ss. texts (words_of (flat_map constant_groups ss))) section_repeats constants_more [] domain.sections no_names e

-- ---- predicates and functions

names_more : (xs ys : List Declared) → texts (names_of (xs ++ ys)) ≡ texts (names_of xs) ++ texts (names_of ys)
names_more xs ys = ap texts (map-append (λ x. x.name) xs ys) ∙ texts_append (names_of xs) (names_of ys)

declared_from : (names : List (List ℕ)) (xs : List Declared) → declared_repeats names xs ≡ [] → IsDistinct bytes_eq names → IsDistinct bytes_eq (names ++ texts (names_of xs))
declared_from names [] e h = subst (IsDistinct bytes_eq) (sym (append-nil names)) h
declared_from names (x ∷ xs) e h =
    subst (IsDistinct bytes_eq) (append_assoc names (x.name.text ∷ []) (texts (names_of xs)))
    (declared_from (names ++ x.name.text ∷ []) xs (second_empty (repeats [] (words_of x.parameters)) _ (second_empty (repeats names (x.name ∷ [])) _ e))
    (repeats_none names (x.name ∷ []) h (first_empty (repeats names (x.name ∷ [])) _ e)))

declared_after : (before declared : List Declared) → declared_repeats (texts (names_of before)) declared ≡ [] → IsDistinct bytes_eq (texts (names_of before)) → IsDistinct bytes_eq (texts (names_of (before ++ declared)))
declared_after before declared e h = subst (IsDistinct bytes_eq) (sym (names_more before declared)) (declared_from (texts (names_of before)) declared e h)

predicates_step : (before : List DomainSection) (s : DomainSection) → section_repeats before s ≡ [] → IsDistinct bytes_eq (texts (names_of (flat_map declared_predicates before)))
    → IsDistinct bytes_eq (texts (names_of (flat_map declared_predicates before ++ declared_predicates s)))
predicates_step before (d.Predicates place declared) e h = declared_after _ declared e h
predicates_step before _ e h = subst (λ xs. IsDistinct bytes_eq (texts (names_of xs))) (sym (append-nil _)) h

functions_step : (before : List DomainSection) (s : DomainSection) → section_repeats before s ≡ [] → IsDistinct bytes_eq (texts (names_of (flat_map declared_functions before)))
    → IsDistinct bytes_eq (texts (names_of (flat_map declared_functions before ++ declared_functions s)))
functions_step before (d.Functions place functions) e h = declared_after _ (map (λ f. f.0) functions) e h
functions_step before _ e h = subst (λ xs. IsDistinct bytes_eq (texts (names_of xs))) (sym (append-nil _)) h

pub predicates_once : (domain : Domain) → each_after section_repeats [] domain.sections ≡ [] → IsDistinct bytes_eq (texts (names_of (all_predicates domain)))
predicates_once domain e =
    distinct_after (λ ss. texts (names_of (flat_map declared_predicates ss))) section_repeats
    (λ before s none h. subst (λ xs. IsDistinct bytes_eq (texts (names_of xs))) (sym (flat_map_more declared_predicates before s)) (predicates_step before s none h)) [] domain.sections no_names e

pub functions_once : (domain : Domain) → each_after section_repeats [] domain.sections ≡ [] → IsDistinct bytes_eq (texts (names_of (all_functions domain)))
functions_once domain e =
    distinct_after (λ ss. texts (names_of (flat_map declared_functions ss))) section_repeats
    (λ before s none h. subst (λ xs. IsDistinct bytes_eq (texts (names_of xs))) (sym (flat_map_more declared_functions before s)) (functions_step before s none h)) [] domain.sections no_names e

-- ---- actions

actions_step : (before : List DomainSection) (s : DomainSection) → section_repeats before s ≡ [] → IsDistinct bytes_eq (texts (flat_map action_names before))
    → IsDistinct bytes_eq (texts (flat_map action_names before) ++ texts (action_names s))
actions_step before (d.Action place w groups c e) none h = repeats_none (texts (flat_map action_names before)) (w ∷ []) h (first_empty (repeats (texts (flat_map action_names before)) (w ∷ [])) _ none)
actions_step before _ none h = subst (IsDistinct bytes_eq) (sym (append-nil _)) h

pub actions_once : (domain : Domain) → each_after section_repeats [] domain.sections ≡ [] → IsDistinct bytes_eq (texts (flat_map action_names domain.sections))
actions_once domain e =
    distinct_after (λ ss. texts (flat_map action_names ss)) section_repeats
    (λ before s none h. subst (IsDistinct bytes_eq) (sym (ap texts (flat_map_more action_names before s) ∙ texts_append (flat_map action_names before) (action_names s))) (actions_step before s none h)) [] domain.sections no_names e

pub objects_once : (domain : Domain) (problem : Problem) → BreaksNoRule domain problem → IsDistinct bytes_eq (texts (words_of (all_constants domain ++ all_objects problem)))
objects_once domain problem h =
    subst (IsDistinct bytes_eq) (sym (words_more (all_constants domain) (all_objects problem)))
    (repeats_none (texts (words_of (all_constants domain))) (words_of (all_objects problem)) (constants_once domain (map_empty _ _ h.names_once)) (map_empty _ _ h.problem_names_once))
