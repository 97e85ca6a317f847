-- A predicate or a function is static exactly where no effect of an action names it.
use Rattle.std.proofs.Common.{◌≡◌, ℕ, zero, suc, ◌<◌, Bool, true, false, refl, sym, ◌∙◌, ap, ap₂, arith, subst, List, [], ◌∷◌, length, map, Option, Some, None, true≢false, eq-eqb}
use Rattle.std.specs.Prelude.{◌||◌, ◌==◌, not, All, bytes_eq, slice_get, if◌then◌else◌}
use Rattle.std.specs.Option.{option_map}
use Rattle.std.specs.List.{flat_map, list_any, IsDistinct}
use Rattle.std.proofs.lemmas.Bool.{ne_eqb}
use Rattle.std.proofs.lemmas.List.{length-map}
use Rattle.std.proofs.lemmas.List.Elements.{All-head, All-tail}
use Rattle.std.proofs.lemmas.List.Folds.{list_any-append}
use Rattle.std.proofs.lemmas.Option.{none-some, same_Some, slice_get-map, slice_get_within}
use Rattle.np_model.specs.declared.task.Action.{Action}
use Rattle.np_model.specs.declared.task.Eff.{Eff}
use Rattle.np_model.specs.declared.task.Signature.{Signature}
use Rattle.np_model.specs.Tasks.{FixedIsStatic, names_predicate, names_function}
use Rattle.np_words.specs.declared.word.Word.{Word}
use Rattle.np_words.specs.declared.word.Ident.{Ident}
use Rattle.np_conditions.specs.declared.effect.Effect.{Effect, map-Effect}
use Rattle.np_conditions.specs.declared.effect.Effect.TheFolds.{fold-roll-Effect}
use Rattle.np_conditions.specs.declared.effect.Effect.TheOpen.{Effect-F}
use Rattle.np_conditions.specs.declared.effect.Effect.TheViews.{roll-Effect}
use Rattle.np_syntax.specs.declared.domain.Declared.{Declared}
use Rattle.np_syntax.specs.declared.domain.Domain.{Domain}
use Rattle.np_syntax.specs.declared.domain.DomainSection.{DomainSection}
use Rattle.np_syntax.specs.declared.domain.DomainSection.TheVariants as d
use Rattle.np_problem.specs.declared.problem.Problem.{Problem}
use Rattle.np_names.specs.declared.fault.TypeFault.{TypeFault}
use Rattle.np_names.specs.declared.fault.TypeWhy.{TypeWhy}
use Rattle.np_names.specs.declared.fault.TypeWhy.TheVariants.{UnknownPredicate, UnknownFunction}
use Rattle.np_names.specs.declared.fault.Source.TheVariants.{Domain as InDomain}
use Rattle.np_names.specs.Names.{texts, is_among, number_of, given}
use Rattle.np_declared.specs.Types.{type_names}
use Rattle.np_names.specs.Declarations.{all_types, all_predicates, all_functions}
use Rattle.np_typing.specs.Scopes.{Scope, with_parameters}
use Rattle.np_declared.specs.Symbols.{symbol_names, touched_from, touched, changed_from, changed, if_given, section_touched, section_changed, all_touched, all_changed, signature}
use Rattle.np_typing.specs.Uses.{found_faults, predicate_faults, function_faults, condition_faults, effect_faults, effect_faults_from}
use Rattle.np_typing.specs.Resolved.{effects_of, effects_from}
use Rattle.np_typing.specs.Rules.{section_use_faults}
use Rattle.np_typing.specs.TaskOf.{scope_of, section_actions, task_of}
use Rattle.np_typing.proofs.keeping.DeclaredParts.{first_empty, second_empty, map_empty, BreaksNoRule}
use Rattle.np_typing.proofs.keeping.DeclaredLists.{among_append}
use Rattle.np_typing.proofs.keeping.DeclaredNumbers.{same_text, text_same, number_gets, number_at}
use Rattle.np_typing.proofs.keeping.DeclaredOnce.{predicates_once, functions_once}
use Rattle.np_typing.proofs.keeping.DeclaredNamed.{signatures_names}
use Rattle.np_typing.proofs.keeping.DeclaredInduction.{each_effect}

-- ---- names and their numbers

pub number_among : (names : List (List ℕ)) (n : List ℕ) → number_of names n < length names → is_among n names ≡ true
number_among [] n h = absurd (omega arith)
number_among (m ∷ names) n h = by (bytes_eq n m) (number_among names n) h
  where
    by : (b : Bool) → (number_of names n < length names → is_among n names ≡ true) → (if b then 0 else suc (number_of names n)) < length (m ∷ names) → (b || is_among n names) ≡ true
    by true rest less = refl
    by false rest less = rest (omega arith)

-- of names that are among distinct ones, those with the number of a name are that name
pub same_number : (names : List (List ℕ)) (n : ℕ) (name m : List ℕ) → IsDistinct bytes_eq names → slice_get names n ≡ Some name → is_among m names ≡ true
    → bytes_eq name m ≡ (number_of names m == n)
same_number names n name m distinct there among = by (bytes_eq name m) refl
  where
    other : bytes_eq name m ≡ false → number_of names m ≡ n → ⊥
    other differs e = true≢false (sym (text_same name) ∙ ap (bytes_eq name) (same_Some name m (sym there ∙ ap (slice_get names) (sym e) ∙ number_gets names m among)) ∙ differs)

    by : (b : Bool) → bytes_eq name m ≡ b → b ≡ (number_of names m == n)
    by true is = sym (eq-eqb (number_of names m) n (ap (number_of names) (sym (same_text name m is)) ∙ number_at names n name distinct there))
    by false is = sym (ne_eqb (number_of names m) n (other is))

-- a symbol without faults is among those declared
symbol_among : (scope : Scope) (why : TypeWhy) (in_amount : Bool) (signatures : List Signature) (w : Word) (idents : List Ident)
    → found_faults scope why in_amount (slice_get signatures (number_of (symbol_names signatures) w.text)) w idents ≡ [] → is_among w.text (symbol_names signatures) ≡ true
symbol_among scope why in_amount signatures w idents none = by (slice_get signatures (number_of (symbol_names signatures) w.text)) refl none
  where
    by : (o : Option Signature) → slice_get signatures (number_of (symbol_names signatures) w.text) ≡ o → found_faults scope why in_amount o w idents ≡ [] → is_among w.text (symbol_names signatures) ≡ true
    by None is e = cc
    by (Some s) is e =
        let less = slice_get_within signatures (number_of (symbol_names signatures) w.text) s is in
        let same = length-map signatures (λ (t : Signature). t.name) in
        number_among (symbol_names signatures) w.text (omega arith)

-- ---- the symbols that an effect names

or_false : (b : Bool) → (b || false) ≡ b
or_false true = refl
or_false false = refl

-- of the parts of an effect
parts_name : {A : Type 0} (name : List ℕ) (test : Eff → Bool) (faults : A → List TypeFault) (named : A → List Word) (made : A → List Eff) (parts : List A)
    → All (λ x. faults x ≡ [] → is_among name (texts (named x)) ≡ list_any test (made x)) parts → flat_map (λ part. part) (map faults parts) ≡ []
    → is_among name (texts (flat_map (λ part. part) (map named parts))) ≡ list_any test (flat_map (λ part. part) (map made parts))
parts_name name test faults named made [] h none = refl
parts_name name test faults named made (x ∷ parts) h none =
    among_append name (named x) (flat_map (λ part. part) (map named parts))
    ∙ ap₂ (λ b c. b || c)
    (All-head (λ y. faults y ≡ [] → is_among name (texts (named y)) ≡ list_any test (made y)) x parts h (first_empty (faults x) _ none))
    (parts_name name test faults named made parts (All-tail (λ y. faults y ≡ [] → is_among name (texts (named y)) ≡ list_any test (made y)) x parts h) (second_empty (faults x) _ none))
    ∙ sym (list_any-append test (made x) (flat_map (λ part. part) (map made parts)))

module _ (scope : Scope) (n : ℕ) (name : List ℕ) where
  -- ---- predicates
  module _ (distinct : IsDistinct bytes_eq (symbol_names scope.predicates)) (there : slice_get (symbol_names scope.predicates) n ≡ Some name) where
    abbrev Touches : Effect → Type 0
    Touches e = effect_faults scope e ≡ [] → is_among name (texts (touched e)) ≡ list_any (names_predicate n) (effects_of scope e)

    touches_at : (x : Effect-F Effect)
        → (effect_faults_from scope (map-Effect Effect (List TypeFault) (effect_faults scope) x) ≡ []
        → is_among name (texts (touched_from (map-Effect Effect (List Word) touched x))) ≡ list_any (names_predicate n) (effects_from scope (map-Effect Effect (List Eff) (effects_of scope) x)))
        → Touches (roll-Effect x)
    touches_at x h none =
        ap (λ ws. is_among name (texts ws)) (fold-roll-Effect (List Word) touched_from x)
        ∙ h (sym (fold-roll-Effect (List TypeFault) (effect_faults_from scope) x) ∙ none)
        ∙ ap (list_any (names_predicate n)) (sym (fold-roll-Effect (List Eff) (effects_from scope) x))

    same_predicate : (w : Word) (idents : List Ident) → predicate_faults scope w idents ≡ [] → (bytes_eq name w.text || false) ≡ ((number_of (symbol_names scope.predicates) w.text == n) || false)
    same_predicate w idents none =
        ap (λ b. b || false) (same_number (symbol_names scope.predicates) n name w.text distinct there (symbol_among scope UnknownPredicate false scope.predicates w idents none))

    touches : (e : Effect) → Touches e
    touches = each_effect Touches (record {
      nothing = touches_at Effect-F.Nothing (λ none. refl);
      both = λ parts p. touches_at (Effect-F.And parts) (λ none. parts_name name (names_predicate n) (effect_faults scope) touched (effects_of scope) parts p none);
      adds = λ w idents. touches_at (Effect-F.Add w idents) (λ none. same_predicate w idents none);
      deletes = λ w idents. touches_at (Effect-F.Delete w idents) (λ none. same_predicate w idents none);
      increases = λ w idents alone v. touches_at (Effect-F.Increase w idents alone v) (λ none. refl);
      decreases = λ w idents alone v. touches_at (Effect-F.Decrease w idents alone v) (λ none. refl);
    })

  -- ---- functions
  module _ (distinct : IsDistinct bytes_eq (symbol_names scope.functions)) (there : slice_get (symbol_names scope.functions) n ≡ Some name) where
    abbrev Changes : Effect → Type 0
    Changes e = effect_faults scope e ≡ [] → is_among name (texts (changed e)) ≡ list_any (names_function n) (effects_of scope e)

    changes_at : (x : Effect-F Effect)
        → (effect_faults_from scope (map-Effect Effect (List TypeFault) (effect_faults scope) x) ≡ []
        → is_among name (texts (changed_from (map-Effect Effect (List Word) changed x))) ≡ list_any (names_function n) (effects_from scope (map-Effect Effect (List Eff) (effects_of scope) x)))
        → Changes (roll-Effect x)
    changes_at x h none =
        ap (λ ws. is_among name (texts ws)) (fold-roll-Effect (List Word) changed_from x)
        ∙ h (sym (fold-roll-Effect (List TypeFault) (effect_faults_from scope) x) ∙ none)
        ∙ ap (list_any (names_function n)) (sym (fold-roll-Effect (List Eff) (effects_from scope) x))

    same_function : (w : Word) (idents : List Ident) → function_faults scope false w idents ≡ [] → (bytes_eq name w.text || false) ≡ ((number_of (symbol_names scope.functions) w.text == n) || false)
    same_function w idents none =
        ap (λ b. b || false) (same_number (symbol_names scope.functions) n name w.text distinct there (symbol_among scope UnknownFunction false scope.functions w idents none))

    changes : (e : Effect) → Changes e
    changes = each_effect Changes (record {
      nothing = changes_at Effect-F.Nothing (λ none. refl);
      both = λ parts p. changes_at (Effect-F.And parts) (λ none. parts_name name (names_function n) (effect_faults scope) changed (effects_of scope) parts p none);
      adds = λ w idents. changes_at (Effect-F.Add w idents) (λ none. refl);
      deletes = λ w idents. changes_at (Effect-F.Delete w idents) (λ none. refl);
      increases = λ w idents alone v. changes_at (Effect-F.Increase w idents alone v) (λ none. same_function w idents (first_empty (function_faults scope false w idents) _ none));
      decreases = λ w idents alone v. changes_at (Effect-F.Decrease w idents alone v) (λ none. same_function w idents (first_empty (function_faults scope false w idents) _ none));
    })

-- ---- the sections

abbrev has_effect : (Eff → Bool) → Action → Bool
has_effect test action = list_any test action.effects

sections_name : (scope : Scope) (name : List ℕ) (test : Eff → Bool) (named : DomainSection → List Word)
    → ((s : DomainSection) → section_use_faults scope s ≡ [] → is_among name (texts (named s)) ≡ list_any (has_effect test) (section_actions scope s))
    → (ss : List DomainSection) → flat_map (section_use_faults scope) ss ≡ []
    → is_among name (texts (flat_map named ss)) ≡ list_any (has_effect test) (flat_map (section_actions scope) ss)
sections_name scope name test named step [] none = refl
sections_name scope name test named step (s ∷ ss) none =
    among_append name (named s) (flat_map named ss)
    ∙ ap₂ (λ b c. b || c) (step s (first_empty (section_use_faults scope s) _ none)) (sections_name scope name test named step ss (second_empty (section_use_faults scope s) _ none))
    ∙ sym (list_any-append (has_effect test) (section_actions scope s) (flat_map (section_actions scope) ss))

given_effect : (name : List ℕ) (test : Eff → Bool) (faults : Effect → List TypeFault) (named : Effect → List Word) (made : Effect → List Eff)
    → ((e : Effect) → faults e ≡ [] → is_among name (texts (named e)) ≡ list_any test (made e))
    → (o : Option Effect) → if_given faults o ≡ [] → is_among name (texts (if_given named o)) ≡ (list_any test (if_given made o) || false)
given_effect name test faults named made h None none = refl
given_effect name test faults named made h (Some e) none = h e none ∙ sym (or_false (list_any test (made e)))

touched_step : (scope : Scope) (n : ℕ) (name : List ℕ) → IsDistinct bytes_eq (symbol_names scope.predicates) → slice_get (symbol_names scope.predicates) n ≡ Some name
    → (s : DomainSection) → section_use_faults scope s ≡ [] → is_among name (texts (section_touched s)) ≡ list_any (has_effect (names_predicate n)) (section_actions scope s)
touched_step scope n name distinct there (d.Action place w groups c e) none =
    let inside = with_parameters scope (given groups) in
    given_effect name (names_predicate n) (effect_faults inside) touched (effects_of inside) (touches inside n name distinct there) e
    (second_empty (if_given (condition_faults inside) c) (if_given (effect_faults inside) e) none)
touched_step scope n name distinct there _ none = refl

changed_step : (scope : Scope) (n : ℕ) (name : List ℕ) → IsDistinct bytes_eq (symbol_names scope.functions) → slice_get (symbol_names scope.functions) n ≡ Some name
    → (s : DomainSection) → section_use_faults scope s ≡ [] → is_among name (texts (section_changed s)) ≡ list_any (has_effect (names_function n)) (section_actions scope s)
changed_step scope n name distinct there (d.Action place w groups c e) none =
    let inside = with_parameters scope (given groups) in
    given_effect name (names_function n) (effect_faults inside) changed (effects_of inside) (changes inside n name distinct there) e
    (second_empty (if_given (condition_faults inside) c) (if_given (effect_faults inside) e) none)
changed_step scope n name distinct there _ none = refl

-- ---- the task

-- the flag of a declared symbol
fixed_at : (types : List (List ℕ)) (named : List (List ℕ)) (declared : List Declared) (n : ℕ) (s : Signature) → slice_get (map (signature types named) declared) n ≡ Some s
    → s.fixed ≡ not (is_among s.name named)
fixed_at types named [] n s e = absurd (none-some s e)
fixed_at types named (x ∷ declared) zero s e = subst (λ (t : Signature). t.fixed ≡ not (is_among t.name named)) (same_Some (signature types named x) s e) refl
fixed_at types named (x ∷ declared) (suc n) s e = fixed_at types named declared n s e

name_there : (signatures : List Signature) (n : ℕ) (s : Signature) → slice_get signatures n ≡ Some s → slice_get (symbol_names signatures) n ≡ Some s.name
name_there signatures n s e = slice_get-map (λ (t : Signature). t.name) signatures n ∙ ap (option_map (λ (t : Signature). t.name)) e

module _ (domain : Domain) (problem : Problem) (h : BreaksNoRule domain problem) where
  abbrev scope : Scope
  scope = scope_of InDomain domain problem

  predicates_distinct : IsDistinct bytes_eq (symbol_names scope.predicates)
  predicates_distinct =
      subst (IsDistinct bytes_eq) (sym (signatures_names (type_names (all_types domain)) (texts (all_touched domain)) (all_predicates domain))) (predicates_once domain (map_empty _ _ h.names_once))

  functions_distinct : IsDistinct bytes_eq (symbol_names scope.functions)
  functions_distinct =
      subst (IsDistinct bytes_eq) (sym (signatures_names (type_names (all_types domain)) (texts (all_changed domain)) (all_functions domain))) (functions_once domain (map_empty _ _ h.names_once))

  pub declared_fixed_predicates : FixedIsStatic (task_of domain problem) names_predicate (task_of domain problem).predicates
  declared_fixed_predicates n s e =
      fixed_at (type_names (all_types domain)) (texts (all_touched domain)) (all_predicates domain) n s e
      ∙ ap not (sections_name scope s.name (names_predicate n) section_touched (touched_step scope n s.name predicates_distinct (name_there scope.predicates n s e)) domain.sections h.uses_fit)

  pub declared_fixed_functions : FixedIsStatic (task_of domain problem) names_function (task_of domain problem).functions
  declared_fixed_functions n s e =
      fixed_at (type_names (all_types domain)) (texts (all_changed domain)) (all_functions domain) n s e
      ∙ ap not (sections_name scope s.name (names_function n) section_changed (changed_step scope n s.name functions_distinct (name_there scope.functions n s e)) domain.sections h.uses_fit)
