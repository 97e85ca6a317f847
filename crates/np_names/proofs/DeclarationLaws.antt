-- What sections declare, one section after the other.
use Rattle.std.proofs.Common.{◌≡◌, ℕ, Bool, List, [], ◌∷◌, ◌++◌, map, Option, Result, Ok, Err, sym, ap, ◌∙◌, append-nil}
use Rattle.std.proofs.lemmas.List.{map-append}
use Rattle.std.proofs.lemmas.Grind.{flat_map-append}
use Rattle.std.specs.List.{flat_map}
use Rattle.np_words.specs.declared.word.Word.{Word}
use Rattle.np_words.specs.declared.word.Group.{Group}
use Rattle.np_syntax.specs.declared.domain.Declared.{Declared}
use Rattle.np_syntax.specs.declared.domain.DomainSection.{DomainSection}
use Rattle.np_syntax.specs.declared.domain.Domain.{Domain as Domain_}
use Rattle.np_problem.specs.declared.problem.Problem.{Problem}
use Rattle.np_names.specs.declared.declarations.Declarations.{Declarations}
use Rattle.np_conditions.specs.declared.condition.Condition.{Condition}
use Rattle.np_conditions.specs.declared.effect.Effect.{Effect}
use Rattle.np_syntax.specs.declared.domain.DomainSection.TheVariants as d
use Rattle.np_lex.specs.declared.token.Place.{Place}
use Rattle.np_names.specs.declared.fault.Source.TheVariants.{Domain, Problem as InProblem}
use Rattle.np_names.specs.declared.fault.TypeWhy.TheVariants.{NameTwice}
use Rattle.np_names.specs.declared.fault.TypeFault.{TypeFault}
use Rattle.np_names.specs.Faults.{faults_of}
use Rattle.np_names.specs.Answers.{Answers, IsFirst}
use Rattle.np_names.specs.Declarations.{listed_types, listed_under, names_of, type_groups, constant_groups, declared_predicates, declared_functions, action_names, declared_repeats, section_repeats, all_constants, all_objects, names_twice, problem_names_twice}
use Rattle.np_names.specs.DeclaredNames.{HasNames, HasDeclared}
use Rattle.np_names.specs.Names.{texts, words_of, repeats, given}
use Rattle.np_names.proofs.Answering.{first_after}
use Rattle.np_names.proofs.Lists.{flat_map_end}
use Rattle.np_names.proofs.Repeats.{texts_more}

-- an answer about other lists of faults and another fact
pub answers_like : {A : Type 0} (faults others : List TypeFault) (P Q : A → Type 0) → others ≡ faults → ((a : A) → P a → Q a)
    → (r : Result A TypeFault) → Answers faults P r → Answers others Q r
answers_like faults others P Q e go (Ok a) h = (e ∙ h.0, go a h.1)
answers_like faults others P Q e go (Err fault) h = rw e h

-- what words of two lists of groups are
words_more : (xs ys : List Group) → texts (words_of (xs ++ ys)) ≡ texts (words_of xs) ++ texts (words_of ys)
words_more xs ys = ap texts (flat_map-append (λ g. g.words) xs ys) ∙ texts_more (words_of xs) (words_of ys)

listed_more : (xs ys : List Group) → texts (listed_types (xs ++ ys)) ≡ texts (listed_types xs) ++ texts (listed_types ys)
listed_more xs ys = ap texts (flat_map-append (λ g. listed_under g.of g.words) xs ys) ∙ texts_more (listed_types xs) (listed_types ys)

names_of_more : (xs ys : List Declared) → texts (names_of (xs ++ ys)) ≡ texts (names_of xs) ++ texts (names_of ys)
names_of_more xs ys = ap texts (map-append (λ x. x.name) xs ys) ∙ texts_more (names_of xs) (names_of ys)

-- names after one more section, whose parts are put to each kind
module _ {A : Type 0} (of : List A → List (List ℕ)) (more : (xs ys : List A) → of (xs ++ ys) ≡ of xs ++ of ys) (part : DomainSection → List A) where
  kind_more : (before : List DomainSection) (s : DomainSection) (old new : List (List ℕ)) → old ≡ of (flat_map part before) → new ≡ old ++ of (part s)
      → new ≡ of (flat_map part (before ++ s ∷ []))
  kind_more before s old new e f =
      f ∙ (ap (λ ns. ns ++ of (part s)) e ∙ (sym (more (flat_map part before) (part s)) ∙ ap of (sym (flat_map_end part before s))))

pub names_put : (before : List DomainSection) (s : DomainSection) (old new : Declarations) → HasNames before old
    → new.types ≡ old.types ++ texts (listed_types (type_groups s))
    → new.objects ≡ old.objects ++ texts (words_of (constant_groups s))
    → new.predicates ≡ old.predicates ++ texts (names_of (declared_predicates s))
    → new.functions ≡ old.functions ++ texts (names_of (declared_functions s))
    → new.actions ≡ old.actions ++ texts (action_names s)
    → HasNames (before ++ s ∷ []) new
names_put before s old new h types objects predicates functions actions = record {
  types = kind_more (λ gs. texts (listed_types gs)) listed_more type_groups before s old.types new.types h.types types;
  objects = kind_more (λ gs. texts (words_of gs)) words_more constant_groups before s old.objects new.objects h.objects objects;
  predicates = kind_more (λ ds. texts (names_of ds)) names_of_more declared_predicates before s old.predicates new.predicates h.predicates predicates;
  functions = kind_more (λ ds. texts (names_of ds)) names_of_more declared_functions before s old.functions new.functions h.functions functions;
  actions = kind_more texts texts_more action_names before s old.actions new.actions h.actions actions;
}

-- nothing is put
pub same_names : (names : List (List ℕ)) → names ≡ names ++ []
same_names names = sym (append-nil names)

-- ---- what a section puts

-- the faults of words that come again, after equal names
repeats_like : (ws : List Word) (names others : List (List ℕ)) → others ≡ names → faults_of Domain NameTwice (repeats names ws) ≡ faults_of Domain NameTwice (repeats others ws)
repeats_like ws names others e = ap (λ ns. faults_of Domain NameTwice (repeats ns ws)) (sym e)

abbrev Outcome : Type 0
Outcome = Result (Unit {0}) TypeFault

module _ (before : List DomainSection) (place : Place) (old new : Declarations) (r : Outcome) (h : HasNames before old) where
  pub types_section : (gs : List Group) → new.objects ≡ old.objects → new.predicates ≡ old.predicates → new.functions ≡ old.functions → new.actions ≡ old.actions
      → Answers (faults_of Domain NameTwice (repeats old.types (listed_types gs))) (λ _. new.types ≡ old.types ++ texts (listed_types gs)) r
      → Answers (faults_of Domain NameTwice (section_repeats before (d.Types place gs))) (λ _. HasNames (before ++ d.Types place gs ∷ []) new) r
  types_section gs o p f a =
      answers_like _ _ _ _ (repeats_like (listed_types gs) (texts (listed_types (flat_map type_groups before))) old.types h.types)
      (λ _ put. names_put before (d.Types place gs) old new h put (o ∙ same_names old.objects) (p ∙ same_names old.predicates) (f ∙ same_names old.functions) (a ∙ same_names old.actions)) r

  pub constants_section : (gs : List Group) → new.types ≡ old.types → new.predicates ≡ old.predicates → new.functions ≡ old.functions → new.actions ≡ old.actions
      → Answers (faults_of Domain NameTwice (repeats old.objects (words_of gs))) (λ _. new.objects ≡ old.objects ++ texts (words_of gs)) r
      → Answers (faults_of Domain NameTwice (section_repeats before (d.Constants place gs))) (λ _. HasNames (before ++ d.Constants place gs ∷ []) new) r
  constants_section gs t p f a =
      answers_like _ _ _ _ (repeats_like (words_of gs) (texts (words_of (flat_map constant_groups before))) old.objects h.objects)
      (λ _ put. names_put before (d.Constants place gs) old new h (t ∙ same_names old.types) put (p ∙ same_names old.predicates) (f ∙ same_names old.functions) (a ∙ same_names old.actions)) r

  pub predicates_section : (ds : List Declared) → new.types ≡ old.types → new.objects ≡ old.objects → new.functions ≡ old.functions → new.actions ≡ old.actions
      → Answers (faults_of Domain NameTwice (declared_repeats old.predicates ds)) (λ _. new.predicates ≡ old.predicates ++ texts (names_of ds)) r
      → Answers (faults_of Domain NameTwice (section_repeats before (d.Predicates place ds))) (λ _. HasNames (before ++ d.Predicates place ds ∷ []) new) r
  predicates_section ds t o f a =
      answers_like _ _ _ _ (ap (λ ns. faults_of Domain NameTwice (declared_repeats ns ds)) (sym h.predicates))
      (λ _ put. names_put before (d.Predicates place ds) old new h (t ∙ same_names old.types) (o ∙ same_names old.objects) put (f ∙ same_names old.functions) (a ∙ same_names old.actions)) r

  pub functions_section : (fs : List (Declared × Bool)) → new.types ≡ old.types → new.objects ≡ old.objects → new.predicates ≡ old.predicates → new.actions ≡ old.actions
      → Answers (faults_of Domain NameTwice (declared_repeats old.functions (map (λ f. f.0) fs))) (λ _. new.functions ≡ old.functions ++ texts (names_of (map (λ f. f.0) fs))) r
      → Answers (faults_of Domain NameTwice (section_repeats before (d.Functions place fs))) (λ _. HasNames (before ++ d.Functions place fs ∷ []) new) r
  functions_section fs t o p a =
      answers_like _ _ _ _ (ap (λ ns. faults_of Domain NameTwice (declared_repeats ns (map (λ f. f.0) fs))) (sym h.functions))
      (λ _ put. names_put before (d.Functions place fs) old new h (t ∙ same_names old.types) (o ∙ same_names old.objects) (p ∙ same_names old.predicates) put (a ∙ same_names old.actions)) r

  pub action_section : (w : Word) (gs : Option (List Group)) (c : Option Condition) (e : Option Effect)
      → new.types ≡ old.types → new.objects ≡ old.objects → new.predicates ≡ old.predicates → new.functions ≡ old.functions
      → Answers (faults_of Domain NameTwice (repeats old.actions (w ∷ []) ++ repeats [] (words_of (given gs)))) (λ _. new.actions ≡ old.actions ++ w.text ∷ []) r
      → Answers (faults_of Domain NameTwice (section_repeats before (d.Action place w gs c e))) (λ _. HasNames (before ++ d.Action place w gs c e ∷ []) new) r
  action_section w gs c e t o p f =
      answers_like _ _ _ _ (ap (λ ns. faults_of Domain NameTwice (repeats ns (w ∷ []) ++ repeats [] (words_of (given gs)))) (sym h.actions))
      (λ _ put. names_put before (d.Action place w gs c e) old new h (t ∙ same_names old.types) (o ∙ same_names old.objects) (p ∙ same_names old.predicates) (f ∙ same_names old.functions) put) r

-- requirements put nothing
pub requirements_section : (before : List DomainSection) (place : Place) (ws : List Word) (old : Declarations) → HasNames before old
    → HasNames (before ++ d.Requirements place ws ∷ []) old
requirements_section before place ws old h =
    names_put before (d.Requirements place ws) old old h (same_names old.types) (same_names old.objects) (same_names old.predicates) (same_names old.functions) (same_names old.actions)

-- ---- both texts

module _ (domain : Domain_) (problem : Problem) (all : Declarations) (h : HasNames domain.sections all) where
  -- the objects of the problem repeat what comes after the constants
  pub objects_faults : problem_names_twice domain problem ≡ faults_of InProblem NameTwice (repeats all.objects (words_of (all_objects problem)))
  objects_faults = ap (λ ns. faults_of InProblem NameTwice (repeats ns (words_of (all_objects problem)))) (sym h.objects)

  pub declared_both : (new : Declarations) → new.objects ≡ all.objects ++ texts (words_of (all_objects problem))
      → new.predicates ≡ all.predicates → new.functions ≡ all.functions → new.actions ≡ all.actions → new.types ≡ all.types → HasDeclared domain problem new
  declared_both new o p f a t = record {
    types = t ∙ h.types;
    objects = o ∙ (ap (λ ns. ns ++ texts (words_of (all_objects problem))) h.objects ∙ sym (words_more (all_constants domain) (all_objects problem)));
    predicates = p ∙ h.predicates;
    functions = f ∙ h.functions;
    actions = a ∙ h.actions;
  }

-- the first fault of the objects of the problem, where the domain has none
pub objects_first : (domain : Domain_) (problem : Problem) (all : Declarations) → HasNames domain.sections all → names_twice domain ≡ [] → (fault : TypeFault)
    → IsFirst (faults_of InProblem NameTwice (repeats all.objects (words_of (all_objects problem)))) fault → IsFirst (names_twice domain ++ problem_names_twice domain problem) fault
objects_first domain problem all h none fault first =
    first_after (names_twice domain) (problem_names_twice domain problem) fault none (rw (objects_faults domain problem all h) first)
