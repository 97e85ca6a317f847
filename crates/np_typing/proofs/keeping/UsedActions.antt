-- The actions of a pair without faults.
use Rattle.std.proofs.Common.{◌≡◌, ℕ, suc, ◌+◌, ◌^◌, ◌<◌, Bool, true, false, List, [], ◌∷◌, ◌++◌, flat_map, length, fold, Option, None, Some, All, if◌then◌else◌, refl, sym, ap, ◌∙◌, arith, append_assoc, append-nil, true≢false}
use Rattle.std.specs.List.{AllByRecursion}
use Rattle.std.proofs.lemmas.List.{length-map}
use Rattle.std.proofs.lemmas.List.Elements.{recursion_from_All, All-from_recursion}
use Rattle.np_lex.specs.declared.token.Place.{Place}
use Rattle.np_model.specs.declared.task.TaskParts.{TaskParts}
use Rattle.np_model.specs.Tasks.{is_condition, is_effect, IsAction}
use Rattle.np_words.specs.declared.word.Word.{Word}
use Rattle.np_words.specs.declared.word.Group.{Group}
use Rattle.np_conditions.specs.declared.condition.Condition.{Condition}
use Rattle.np_conditions.specs.declared.effect.Effect.{Effect}
use Rattle.np_syntax.specs.declared.domain.Domain.{Domain}
use Rattle.np_syntax.specs.declared.domain.DomainSection.{DomainSection}
use Rattle.np_syntax.specs.declared.domain.DomainSection.TheVariants as d
use Rattle.np_syntax.specs.Domains.{IsActionCondition, IsActionEffect}
use Rattle.np_syntax.specs.SectionText.{IfGiven}
use Rattle.np_syntax.specs.SectionText as text
use Rattle.np_problem.specs.declared.problem.Problem.{Problem}
use Rattle.np_names.specs.declared.fault.Source.TheVariants.{Domain as InDomain}
use Rattle.np_names.specs.Names.{each_after, given, texts, is_among, repeats, with_name, firsts, words_of}
use Rattle.np_declared.specs.Types.{type_names}
use Rattle.np_names.specs.Declarations.{action_names, section_repeats, all_types}
use Rattle.np_declared.specs.TypeRules.{section_unknown}
use Rattle.np_typing.specs.Scopes.{Scope, with_parameters}
use Rattle.np_declared.specs.Symbols.{type_names_of, if_given}
use Rattle.np_typing.specs.Uses.{condition_faults, effect_faults}
use Rattle.np_typing.specs.Resolved.{conditions_of, effects_of}
use Rattle.np_typing.specs.Rules.{action_faults, section_use_faults}
use Rattle.np_typing.specs.TaskOf.{scope_of, action_of, section_actions, task_of}
use Rattle.np_typing.specs.Typing.{IsSpelledPair}
use Rattle.np_typing.proofs.keeping.DeclaredParts.{map_empty, BreaksNoRule}
use Rattle.np_typing.proofs.keeping.DeclaredKnown.{flat_map_none}
use Rattle.np_typing.proofs.keeping.DeclaredSignatures.{parameters_typed, sections_known}
use Rattle.np_typing.proofs.keeping.DeclaredSizes.{condition_size, effect_size}
use Rattle.np_typing.proofs.keeping.DeclaredLengths.{given_size, section_size, sections_short, numbers_length, parameters_short, action_needs_short, action_effects_short}
use Rattle.np_typing.proofs.keeping.UsedLists.{both_none, unless}
use Rattle.np_typing.proofs.keeping.UsedSymbols.{Agrees}
use Rattle.np_typing.proofs.keeping.UsedLevels.{action_conditions_fit, action_effects_fit}

abbrev pub IsSection : DomainSection → Type 0
IsSection = text.IsSection IsActionCondition IsActionEffect

-- it has few parts
abbrev pub IsShortSection : DomainSection → Type 0
IsShortSection s = section_size s < 2 ^ 31

-- ---- parameters of an action are distinct

firsts_from : (names : List (List ℕ)) (ws : List Word) → repeats names ws ≡ [] → fold with_name names (texts ws) ≡ names ++ texts ws
firsts_from names [] h = sym (append-nil names)
firsts_from names (w ∷ ws) h =
    let p = both_none (if is_among w.text names then w ∷ [] else []) (repeats (names ++ w.text ∷ []) ws) h in
    by (is_among w.text names) (unless (is_among w.text names) w [] p.0) (firsts_from (names ++ w.text ∷ []) ws p.1)
  where
    by : (b : Bool) → b ≡ false → fold with_name (names ++ w.text ∷ []) (texts ws) ≡ (names ++ w.text ∷ []) ++ texts ws
        → fold with_name (if b then names else names ++ w.text ∷ []) (texts ws) ≡ names ++ w.text ∷ texts ws
    by true e rest = absurd (true≢false e)
    by false e rest = rest ∙ append_assoc names (w.text ∷ []) (texts ws)

firsts_once : (ws : List Word) → repeats [] ws ≡ [] → firsts (texts ws) ≡ texts ws
firsts_once ws h = firsts_from [] ws h

abbrev pub HasDistinct : DomainSection → Type 0
HasDistinct (d.Action place w gs c e) = repeats [] (words_of (given gs)) ≡ []
HasDistinct _ = Unit {0}

distinct_parameters : (before ss : List DomainSection) → each_after section_repeats before ss ≡ [] → AllByRecursion HasDistinct ss
distinct_parameters before [] h = tt
distinct_parameters before (s ∷ ss) h =
    let q = both_none (section_repeats before s) (each_after section_repeats (before ++ s ∷ []) ss) h in (by s q.0, distinct_parameters (before ++ s ∷ []) ss q.1)
  where
    by : (t : DomainSection) → section_repeats before t ≡ [] → HasDistinct t
    by (d.Requirements place words) g = tt
    by (d.Types place gs) g = tt
    by (d.Constants place gs) g = tt
    by (d.Predicates place xs) g = tt
    by (d.Functions place fs) g = tt
    by (d.Action place w gs c e) g = (both_none (repeats (texts (flat_map action_names before)) (w ∷ [])) (repeats [] (words_of (given gs))) g).1

-- ---- actions

module _ (domain : Domain) (problem : Problem) where
  abbrev outside : Scope
  outside = scope_of InDomain domain problem

  abbrev task : TaskParts
  task = task_of domain problem

  abbrev inside : Option (List Group) → Scope
  inside gs = with_parameters outside (given gs)

  abbrev names : List (List ℕ)
  names = type_names (all_types domain)

  agrees : (gs : Option (List Group)) → repeats [] (words_of (given gs)) ≡ [] → Agrees (inside gs) task (inside gs).variable_types
  agrees gs once = record {
    types = refl;
    objects = refl;
    predicates = refl;
    functions = refl;
    given = refl;
    as_many = ap length (firsts_once (words_of (given gs)) once) ∙ length-map (words_of (given gs)) _ ∙ sym (numbers_length (type_names_of outside.types) (given gs));
  }

  module _ (gs : Option (List Group)) (once : repeats [] (words_of (given gs)) ≡ []) where
    abbrev parameter_types : List ℕ
    parameter_types = (inside gs).variable_types

    needs_fit : (c : Option Condition) → IfGiven IsActionCondition c → given_size condition_size c < 2 ^ 31 → if_given (condition_faults (inside gs)) c ≡ []
        → AllByRecursion (λ x. is_condition task parameter_types x ≡ true) (if_given (conditions_of (inside gs)) c)
    needs_fit None is short h = tt
    needs_fit (Some c) is short h = action_conditions_fit (inside gs) task parameter_types (agrees gs once) c is (omega (arith, short)) h

    effects_fit : (e : Option Effect) → IfGiven IsActionEffect e → given_size effect_size e < 2 ^ 31 → if_given (effect_faults (inside gs)) e ≡ []
        → AllByRecursion (λ x. is_effect task parameter_types x ≡ true) (if_given (effects_of (inside gs)) e)
    effects_fit None is short h = tt
    effects_fit (Some e) is short h = action_effects_fit (inside gs) task parameter_types (agrees gs once) e is (omega (arith, short)) h

  action_fits : (place : Place) (w : Word) (gs : Option (List Group)) (c : Option Condition) (e : Option Effect) → IfGiven IsActionCondition c × IfGiven IsActionEffect e
      → IsShortSection (d.Action place w gs c e) → action_faults outside gs c e ≡ [] → section_unknown names (d.Action place w gs c e) ≡ [] → repeats [] (words_of (given gs)) ≡ []
      → IsAction task (action_of outside w gs c e)
  action_fits place w gs c e is short h known once =
      let q = both_none (if_given (condition_faults (inside gs)) c) (if_given (effect_faults (inside gs)) e) h in
      let few : suc (length (words_of (given gs)) + (given_size condition_size c + given_size effect_size e)) < 2 ^ 31 = short in
      record {
        short_parameters = parameters_short outside place w gs c e short;
        short_needs = action_needs_short outside place w gs c e short;
        short_effects = action_effects_short outside place w gs c e short;
        typed = parameters_typed domain problem place w gs c e known;
        needs = All-from_recursion (λ x. is_condition task (inside gs).variable_types x ≡ true) (if_given (conditions_of (inside gs)) c) (needs_fit gs once c is.0 (omega (arith, few)) q.0);
        effects = All-from_recursion (λ x. is_effect task (inside gs).variable_types x ≡ true) (if_given (effects_of (inside gs)) e) (effects_fit gs once e is.1 (omega (arith, few)) q.1);
      }

  actions_fit : (ss : List DomainSection) → AllByRecursion IsSection ss → AllByRecursion IsShortSection ss → AllByRecursion (λ s. section_use_faults outside s ≡ []) ss
      → AllByRecursion (λ s. section_unknown names s ≡ []) ss → AllByRecursion HasDistinct ss → AllByRecursion (IsAction task) (flat_map (section_actions outside) ss)
  actions_fit [] is short none known once = tt
  actions_fit (s ∷ ss) is short none known once = by s is.0 short.0 none.0 known.0 once.0 (actions_fit ss is.1 short.1 none.1 known.1 once.1)
    where
      by : (t : DomainSection) → IsSection t → IsShortSection t → section_use_faults outside t ≡ [] → section_unknown names t ≡ [] → HasDistinct t
          → AllByRecursion (IsAction task) (flat_map (section_actions outside) ss) → AllByRecursion (IsAction task) (section_actions outside t ++ flat_map (section_actions outside) ss)
      by (d.Requirements place words) i few h k one rest = rest
      by (d.Types place gs) i few h k one rest = rest
      by (d.Constants place gs) i few h k one rest = rest
      by (d.Predicates place xs) i few h k one rest = rest
      by (d.Functions place fs) i few h k one rest = rest
      by (d.Action place w gs c e) i few h k one rest = (action_fits place w gs c e i.1.1 few h k one, rest)

  pub used_actions : IsSpelledPair domain problem → BreaksNoRule domain problem → All (IsAction (task_of domain problem)) (task_of domain problem).actions
  used_actions pair rules =
      let is = recursion_from_All IsSection domain.sections pair.is_domain.1 in
      All-from_recursion (IsAction task) task.actions
      (actions_fit domain.sections is (recursion_from_All IsShortSection domain.sections (sections_short domain problem pair)) (recursion_from_All (λ s. section_use_faults outside s ≡ []) domain.sections (flat_map_none (section_use_faults outside) domain.sections rules.uses_fit))
      (recursion_from_All (λ s. section_unknown names s ≡ []) domain.sections (sections_known domain problem rules))
      (distinct_parameters [] domain.sections (map_empty _ _ rules.names_once)))
