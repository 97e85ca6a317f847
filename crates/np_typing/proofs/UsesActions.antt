-- The parameters of an action, and the action.
use Rattle.std.proofs.Common.{◌≡◌, ℕ, ◌+◌, ◌<◌, ◌≤◌, List, [], ◌∷◌, ◌++◌, fold, take, length, get_or, Option, sym, ap, ◌∙◌}
use Rattle.std.proofs.lemmas.List.{map-append, append-nil, take_more, take_all}
use Rattle.std.proofs.lemmas.List.Concat.{flat_map-append}
use Rattle.std.proofs.lemmas.List.Sums.{fold-append}
use Rattle.np_words.specs.declared.word.Word.{Word}
use Rattle.np_words.specs.declared.word.Group.{Group}
use Rattle.np_conditions.specs.declared.condition.Condition.{Condition}
use Rattle.np_conditions.specs.declared.effect.Effect.{Effect}
use Rattle.np_model.specs.declared.task.Action.{Action}
use Rattle.np_model.specs.declared.task.Cond.{Cond}
use Rattle.np_model.specs.declared.task.Eff.{Eff}
use Rattle.np_names.specs.declared.fault.TypeFault.{TypeFault}
use Rattle.np_names.specs.declared.fault.Source.{Source}
use Rattle.np_declared.specs.declared.tables.Tables.{Tables}
use Rattle.np_names.specs.Names.{texts, words_of, with_name, firsts, given}
use Rattle.np_declared.specs.Types.{numbers_in}
use Rattle.np_typing.specs.Scopes.{Scope, with_parameters}
use Rattle.np_typing.specs.Resolved.{conditions_of, effects_of}
use Rattle.np_typing.specs.Uses.{condition_faults, effect_faults}
use Rattle.np_lex.specs.declared.token.Place.{Place}
use Rattle.np_syntax.specs.declared.domain.DomainSection.{DomainSection}
use Rattle.np_syntax.specs.declared.domain.DomainSection.TheVariants as d
use Rattle.np_typing.specs.Rules.{section_use_faults}
use Rattle.np_declared.specs.Symbols.{if_given}
use Rattle.np_typing.specs.TaskOf.{section_actions}
use Rattle.np_declared.specs.LookUps.{TablesAgree}
use Rattle.np_typing.specs.LookUps.{scope_from}

-- the words of groups with one more
words_more : (groups : List Group) (i : ℕ) (g : Group) → i < length groups → g ≡ get_or groups i g
    → words_of (take (i + 1) groups) ≡ words_of (take i groups) ++ g.words
words_more groups i g within is =
    ap words_of (take_more groups i g within ∙ ap (λ x. take i groups ++ x ∷ []) (sym is))
    ∙ flat_map-append (λ (x : Group). x.words) (take i groups) (g ∷ []) ∙ ap (λ ws. words_of (take i groups) ++ ws) (append-nil g.words)

-- their names with one more
pub names_more : (groups : List Group) (i : ℕ) (g : Group) (names new : List (List ℕ)) → i < length groups → g ≡ get_or groups i g
    → names ≡ firsts (texts (words_of (take i groups))) → new ≡ fold with_name names (texts g.words)
    → new ≡ firsts (texts (words_of (take (i + 1) groups)))
names_more groups i g names new within is so_far more =
    more ∙ ap (λ ns. fold with_name ns (texts g.words)) so_far
    ∙ sym (fold-append with_name [] (texts (words_of (take i groups))) (texts g.words))
    ∙ ap firsts (sym (map-append (λ (w : Word). w.text) (words_of (take i groups)) g.words) ∙ ap texts (sym (words_more groups i g within is)))

pub names_all : (groups : List Group) (i : ℕ) (names : List (List ℕ)) → length groups ≤ i
    → names ≡ firsts (texts (words_of (take i groups))) → names ≡ firsts (texts (words_of groups))
names_all groups i names past e = e ∙ ap (λ gs. firsts (texts (words_of gs))) (take_all i groups past)

-- ---- the scope of an action

pub scope_with : (source : Source) (tables : Tables) (groups : List Group) (names : List (List ℕ)) (types : List ℕ) (s : Scope) → TablesAgree tables
    → names ≡ firsts (texts (words_of groups)) → types ≡ numbers_in tables.type_names groups
    → s ≡ record (scope_from source tables) { variables = names; variable_types = types }
    → s ≡ with_parameters (scope_from source tables) groups
scope_with source tables groups names types s agree e f is =
    is
    ∙ ap (λ (ns : List (List ℕ)). record (scope_from source tables) { variables = ns; variable_types = types }) e
    ∙ ap (λ (ts : List ℕ). record (scope_from source tables) { variables = firsts (texts (words_of groups)); variable_types = ts })
    (f ∙ ap (λ ts. numbers_in ts groups) agree.types_are)

-- what an action uses and what it is, in a scope that is written otherwise
abbrev pub faults_in : Option Condition → Option Effect → Scope → List TypeFault
faults_in given effect s = if_given (condition_faults s) given ++ if_given (effect_faults s) effect

pub action_is : (s scope : Scope) (given : Option Condition) (effect : Option Effect) (text name : List ℕ) (types parameters : List ℕ) (needs : List Cond) (effects : List Eff)
    → s ≡ scope → name ≡ text → parameters ≡ types → needs ≡ if_given (conditions_of s) given → effects ≡ if_given (effects_of s) effect
    → let made : Action = record { name = name; parameters = parameters; needs = needs; effects = effects } in
    let wanted : Action = record { name = text; parameters = types; needs = if_given (conditions_of scope) given; effects = if_given (effects_of scope) effect } in made ≡ wanted
action_is s scope given effect text name types parameters needs effects same e f g h =
    let k : needs ≡ if_given (conditions_of scope) given = g ∙ ap (λ x. if_given (conditions_of x) given) same in
    let m : effects ≡ if_given (effects_of scope) effect = h ∙ ap (λ x. if_given (effects_of x) effect) same in
    λ i. record { name = e i; parameters = f i; needs = k i; effects = m i }

-- ---- the section of an action

abbrev pub action_in : Scope → Word → Option Condition → Option Effect → List Group → Action
action_in scope w asked effect groups =
    let inside = with_parameters scope groups in
    record { name = w.text; parameters = inside.variable_types; needs = if_given (conditions_of inside) asked; effects = if_given (effects_of inside) effect }

module _ (scope : Scope) (section : DomainSection) (place : Place) (w : Word) (listed : Option (List Group)) (asked : Option Condition) (effect : Option Effect) (groups : List Group)
    (is : section ≡ d.Action place w listed asked effect) (are : groups ≡ given listed) where
  pub section_faults_are : section_use_faults scope section ≡ faults_in asked effect (with_parameters scope groups)
  section_faults_are = ap (section_use_faults scope) is ∙ ap (λ gs. faults_in asked effect (with_parameters scope gs)) (sym are)

  pub section_action_is : (one : Action) → one ≡ action_in scope w asked effect groups → section_actions scope section ≡ one ∷ []
  section_action_is one e =
      ap (section_actions scope) is ∙ ap (λ gs. action_in scope w asked effect gs ∷ []) (sym are) ∙ ap (λ (x : Action). x ∷ []) (sym e)
