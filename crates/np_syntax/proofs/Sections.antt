-- Sections are read as they are spelled, and stand where they say, where conditions and effects are and do.
use Rattle.std.proofs.Common.{◌≡◌, ◌⊎◌, ℕ, Bool, false, List, [], ◌∷◌, Option, None, Some, refl, ap, ◌∙◌, codes}
use Rattle.np_lex.specs.declared.token.Place.{Place}
use Rattle.np_lex.specs.Tokens.{Lexeme, word, Item, left, right, named}
use Rattle.np_read.specs.Marks.{Mark, Marking}
use Rattle.np_read.specs.Same.{same_lexeme}
use Rattle.np_read.specs.Printers.{Printed}
use Rattle.np_read.specs.ItemReaders.{Reader, says, expect, open_with, after, before, both, made, row}
use Rattle.np_read.specs.PlacedReaders.{place_if, placed, either_by}
use Rattle.np_read.proofs.Good.{Good, Starts, Starting, good_of}
use Rattle.np_read.proofs.GoodParts.{starts_expect, starts_open, starts_after, good_after, good_before, good_both, good_made, starts_made, starts_both, good_row}
use Rattle.np_read.proofs.Spelled.{Reads, Avoids, reads_expect, reads_after}
use Rattle.np_read.proofs.Marked.{Placed, marked_at, placed_expect, placed_after}
use Rattle.np_read.proofs.ItemChoices.{expect_refused}
use Rattle.np_read.proofs.PlacedLexing.{place_yes, place_no}
use Rattle.np_read.proofs.PlacedParts.{Refuses, MadeOf, IsAnyPlace, SamePlace, said_by, place_is, starts_placed, starts_either_by, reads_either_by, placed_either_by, either_by_refuses, either_by_nothing, made_refuses, both_refuses, token_refuses, token_nothing, silent}
use Rattle.np_conditions.specs.declared.condition.Condition.{Condition}
use Rattle.np_conditions.specs.declared.effect.Effect.{Effect}
use Rattle.np_syntax.specs.declared.domain.Domain.{Domain}
use Rattle.np_syntax.specs.declared.domain.Declared.{Declared}
use Rattle.np_syntax.specs.declared.domain.DomainSection.{DomainSection}
use Rattle.np_syntax.specs.declared.domain.DomainSection.TheVariants as s
use Rattle.np_words.specs.declared.word.Word.{Word}
use Rattle.np_words.specs.declared.word.Group.{Group}
use Rattle.np_words.specs.declared.word.ListKind.TheVariants.{Names, Variables}
use Rattle.np_words.specs.Bare.{nowhere}
use Rattle.np_syntax.specs.SectionText.{IfGiven, action_parts, section_inside, IsSection, bare_section}
use Rattle.np_syntax.specs.SectionText as section_text
use Rattle.np_words.specs.Text.{spelled, marked, keyword_lexeme}
use Rattle.np_words.specs.Written.{AreGroups}
use Rattle.np_words.specs.ReadingForm.{name, requirement}
use Rattle.np_syntax.specs.DomainForm.{typed_list, declared, functions}
use Rattle.np_syntax.specs.SectionForm.{parameters, from_effect, from_precondition, from_parameters, from_action, from_functions, from_predicates, from_constants, from_types, from_requirements, section, domain_with}
use Rattle.np_words.proofs.ReadingWords.{starting_name, starting_requirement}
use Rattle.np_syntax.proofs.TypedLists.{SameGroups, good_typed_list, reads_typed_list, placed_typed_list}
use Rattle.np_syntax.proofs.Declarations.{starting_declared, good_functions, other_lexeme, after_left_avoids}
use Rattle.np_syntax.proofs.Givens.{starts_given, given_nothing, given_avoids}

-- ---- keywords

abbrev pub effect_word : Lexeme
effect_word = keyword_lexeme (codes "effect")

abbrev pub precondition_word : Lexeme
precondition_word = keyword_lexeme (codes "precondition")

abbrev pub parameters_word : Lexeme
parameters_word = keyword_lexeme (codes "parameters")

abbrev pub action_word : Lexeme
action_word = keyword_lexeme (codes "action")

abbrev pub functions_word : Lexeme
functions_word = keyword_lexeme (codes "functions")

abbrev pub predicates_word : Lexeme
predicates_word = keyword_lexeme (codes "predicates")

abbrev pub constants_word : Lexeme
constants_word = keyword_lexeme (codes "constants")

abbrev pub types_word : Lexeme
types_word = keyword_lexeme (codes "types")

abbrev pub requirements_word : Lexeme
requirements_word = keyword_lexeme (codes "requirements")

-- ---- parameters in brackets

parameters_good : (k : ℕ) → Good k parameters
unfolding parameters
parameters_good k = good_of k (after (expect left) (typed_list Variables)) (starts_after k (expect left) (typed_list Variables) (starts_expect k left) (good_typed_list Variables k))

pub reads_parameters : Reads (AreGroups Variables) (section_text.parameters spelled) SameGroups parameters
unfolding parameters
reads_parameters = reads_after (reads_expect left) (reads_typed_list Variables)

pub placed_parameters : Placed (AreGroups Variables) (section_text.parameters marked) parameters
unfolding parameters
placed_parameters = placed_after (placed_expect left) (placed_typed_list Variables)

-- ---- a choice by a keyword whose place is kept

-- the reader refuses what begins with this lexeme, and so what says its place
place_avoids : {A : Type 0} (lexeme : Lexeme) (second : Reader A) → Avoids lexeme second → (item : Item) (items : List Item) (place : Place) → says (place_if lexeme item.place) item.piece ≡ Some place → Refuses second (item ∷ items)
place_avoids lexeme second avoids item items place e =
    let said = said_by (place_if lexeme item.place) item.piece place e in
    avoids item items (said.1 ∙ ap (λ (l : Lexeme). word l) (place_is lexeme item.place said.0 place said.2).0)

-- a keyword that isn't this one
pub other_place : (lexeme other : Lexeme) → same_lexeme lexeme other ≡ false → (place : Place) → place_if other place lexeme ≡ None
other_place lexeme other differ place = place_no other place lexeme (λ same. other_lexeme lexeme other (word lexeme) differ refl (ap (λ (l : Lexeme). word l) same))

module _ {A C : Type 0} (lexeme : Lexeme) (make : Place → C → A) (next : Reader C) (second : Reader A) where
  abbrev pub by_place : Reader A
  by_place = either_by (place_if lexeme) (λ place. made (make place) next) second

  pub starts_by_place : (k : ℕ) → Good k next → Starts k second → Starts k by_place
  starts_by_place k good starts =
      starts_either_by k (place_if lexeme) (λ place. made (make place) next) second (λ place. good_made k (make place) next good) starts.tries nowhere lexeme nowhere (place_yes lexeme nowhere)

  pub by_place_avoids : (other : Lexeme) → same_lexeme other lexeme ≡ false → Avoids other second → Avoids other by_place
  by_place_avoids other differ avoids item items is =
      either_by_refuses (place_if lexeme) (λ place. made (make place) next) second item items (silent (place_if lexeme) item other is (other_place other lexeme differ item.place)) (avoids item items is)

  pub by_place_nothing : Refuses by_place []
  by_place_nothing = either_by_nothing (place_if lexeme) (λ place. made (make place) next) second

  module _ {Q : C → Type 0} {R : A → Type 0} {print : A → Printed} {follow_print : C → Printed} {Same : A → A → Type 0} {SameNext : C → C → Type 0} where
    pub reads_by_place : ((place : Place) (c : C) (ls : List Lexeme) → print (make place c) ls ≡ lexeme ∷ follow_print c ls) → ((at_place other : Place) (c d : C) → SameNext c d → Same (make at_place c) (make other d))
        → Reads Q follow_print SameNext next → Reads R print Same second → Refuses second [] → Avoids lexeme second → Reads (λ (a : A). MadeOf make IsAnyPlace Q a ⊎ R a) print Same by_place
    reads_by_place prints same one two nothing avoids =
        reads_either_by (place_if lexeme) IsAnyPlace make (λ place. lexeme) SamePlace (λ place found at_place e. (tt, (place_is lexeme place found at_place e).0))
        (λ place at_place h. (place, place_yes lexeme place, tt)) prints (λ b d c e h k. same b d c e k) one two nothing (place_avoids lexeme second avoids)

  module _ {Q : C → Type 0} {R : A → Type 0} {marks : A → Marking} {follow_marks : C → Marking} where
    pub placed_by_place : ((place : Place) (c : C) (ms : List Mark) → marks (make place c) ms ≡ marked_at place lexeme ∷ follow_marks c ms) → Placed Q follow_marks next → Placed R marks second → Placed (λ (a : A). MadeOf make IsAnyPlace Q a ⊎ R a) marks by_place
    placed_by_place prints one two =
        placed_either_by (place_if lexeme) IsAnyPlace make (λ place. marked_at place lexeme)
        (λ place found at_place e. let h = place_is lexeme place found at_place e in (tt, record { piece = ap (λ (l : Lexeme). word l) h.0; places = (h.1, tt) })) prints one two

-- ---- the readers go by the items alone, and each refuses what begins otherwise

pub expect_avoids : (other lexeme : Lexeme) → same_lexeme other lexeme ≡ false → Avoids other (expect lexeme)
expect_avoids other lexeme differ item items is = expect_refused lexeme item items (other_lexeme other lexeme item.piece differ is)

abbrev pub Parts : Type 0
Parts = Option (List Group) × (Option Condition × (Option Effect × Unit {0}))

abbrev pub action_of : Place × (Word × Parts) → DomainSection
action_of x = s.Action x.0 x.1.0 x.1.1.0 x.1.1.1.0 x.1.1.1.1.0

abbrev pub functions_of : Place → List (Declared × Bool) → DomainSection
functions_of place fs = s.Functions place fs

abbrev pub predicates_of : Place → List Declared → DomainSection
predicates_of place ds = s.Predicates place ds

abbrev pub constants_of : Place → List Group → DomainSection
constants_of place gs = s.Constants place gs

abbrev pub types_of : Place → List Group → DomainSection
types_of place gs = s.Types place gs

abbrev pub requirements_of : Place → List Word → DomainSection
requirements_of place words = s.Requirements place words

module _ (c : Reader Condition) (e : Reader Effect) where
  pub effect_nothing : Refuses (from_effect c e) []
  unfolding from_effect
  effect_nothing = given_nothing effect_word e (expect right)

  pub effect_avoids : (other : Lexeme) → same_lexeme other effect_word ≡ false → same_lexeme other right ≡ false → Avoids other (from_effect c e)
  unfolding from_effect
  effect_avoids other d close = given_avoids effect_word e (expect right) other d (expect_avoids other right close)

  pub precondition_nothing : Refuses (from_precondition c e) []
  unfolding from_precondition
  precondition_nothing = given_nothing precondition_word c (from_effect c e)

  pub precondition_avoids : (other : Lexeme) → same_lexeme other precondition_word ≡ false → same_lexeme other effect_word ≡ false → same_lexeme other right ≡ false → Avoids other (from_precondition c e)
  unfolding from_precondition
  precondition_avoids other d more close = given_avoids precondition_word c (from_effect c e) other d (effect_avoids other more close)

  abbrev pub action_parts_read : Reader (Place × (Word × Parts))
  action_parts_read = both (placed action_word) (both name (from_parameters c e))

  pub action_nothing : Refuses (from_action c e) []
  unfolding from_action
  action_nothing = made_refuses action_of action_parts_read [] (both_refuses (placed action_word) (both name (from_parameters c e)) [] (token_nothing (place_if action_word)))

  pub action_avoids : (other : Lexeme) → same_lexeme other action_word ≡ false → Avoids other (from_action c e)
  unfolding from_action
  action_avoids other d item items is =
      made_refuses action_of action_parts_read (item ∷ items)
      (both_refuses (placed action_word) (both name (from_parameters c e)) (item ∷ items) (token_refuses (place_if action_word) item items (silent (place_if action_word) item other is (other_place other action_word d item.place))))

  pub functions_nothing : Refuses (from_functions c e) []
  unfolding from_functions
  functions_nothing = by_place_nothing functions_word functions_of functions (from_action c e)

  pub functions_avoids : (other : Lexeme) → same_lexeme other functions_word ≡ false → same_lexeme other action_word ≡ false → Avoids other (from_functions c e)
  unfolding from_functions
  functions_avoids other d action = by_place_avoids functions_word functions_of functions (from_action c e) other d (action_avoids other action)

  pub predicates_nothing : Refuses (from_predicates c e) []
  unfolding from_predicates
  predicates_nothing = by_place_nothing predicates_word predicates_of (row declared) (from_functions c e)

  pub predicates_avoids : (other : Lexeme) → same_lexeme other predicates_word ≡ false → same_lexeme other functions_word ≡ false → same_lexeme other action_word ≡ false → Avoids other (from_predicates c e)
  unfolding from_predicates
  predicates_avoids other d function action = by_place_avoids predicates_word predicates_of (row declared) (from_functions c e) other d (functions_avoids other function action)

  pub constants_nothing : Refuses (from_constants c e) []
  unfolding from_constants
  constants_nothing = by_place_nothing constants_word constants_of (typed_list Names) (from_predicates c e)

  pub constants_avoids : (other : Lexeme) → same_lexeme other constants_word ≡ false → same_lexeme other predicates_word ≡ false → same_lexeme other functions_word ≡ false → same_lexeme other action_word ≡ false → Avoids other (from_constants c e)
  unfolding from_constants
  constants_avoids other d predicate function action = by_place_avoids constants_word constants_of (typed_list Names) (from_predicates c e) other d (predicates_avoids other predicate function action)

  pub types_nothing : Refuses (from_types c e) []
  unfolding from_types
  types_nothing = by_place_nothing types_word types_of (typed_list Names) (from_constants c e)

  pub types_avoids : (other : Lexeme) → same_lexeme other types_word ≡ false → same_lexeme other constants_word ≡ false → same_lexeme other predicates_word ≡ false → same_lexeme other functions_word ≡ false → same_lexeme other action_word ≡ false → Avoids other (from_types c e)
  unfolding from_types
  types_avoids other d constant predicate function action =
      by_place_avoids types_word types_of (typed_list Names) (from_constants c e) other d (constants_avoids other constant predicate function action)

  pub section_avoids : (other : Lexeme) → same_lexeme other left ≡ false → Avoids other (section c e)
  unfolding section
  section_avoids other d = after_left_avoids (from_requirements c e) other d

  module _ (good_c : (k : ℕ) → Good k c) (good_e : (k : ℕ) → Good k e) where
    starting_effect : Starting (from_effect c e)
    unfolding from_effect
    starting_effect k = starts_given effect_word e (expect right) k (good_e k) (starts_expect k right)

    starting_precondition : Starting (from_precondition c e)
    unfolding from_precondition
    starting_precondition k = starts_given precondition_word c (from_effect c e) k (good_c k) (starting_effect k)

    starting_parameters : Starting (from_parameters c e)
    unfolding from_parameters
    starting_parameters k = starts_given parameters_word parameters (from_precondition c e) k (parameters_good k) (starting_precondition k)

    starting_action : Starting (from_action c e)
    unfolding from_action
    starting_action k =
        starts_made k action_of action_parts_read
        (starts_both k (placed action_word) (both name (from_parameters c e)) (starts_placed k action_word)
        (good_both k name (from_parameters c e) (good_of k name (starting_name k)) (good_of k (from_parameters c e) (starting_parameters k))))

    starting_functions : Starting (from_functions c e)
    unfolding from_functions
    starting_functions k = starts_by_place functions_word functions_of functions (from_action c e) k (good_functions k) (starting_action k)

    starting_predicates : Starting (from_predicates c e)
    unfolding from_predicates
    starting_predicates k = starts_by_place predicates_word predicates_of (row declared) (from_functions c e) k (good_row declared starting_declared k) (starting_functions k)

    starting_constants : Starting (from_constants c e)
    unfolding from_constants
    starting_constants k = starts_by_place constants_word constants_of (typed_list Names) (from_predicates c e) k (good_typed_list Names k) (starting_predicates k)

    pub starting_types : Starting (from_types c e)
    unfolding from_types
    starting_types k = starts_by_place types_word types_of (typed_list Names) (from_constants c e) k (good_typed_list Names k) (starting_constants k)

    pub starting_requirements : Starting (from_requirements c e)
    unfolding from_requirements
    starting_requirements k = starts_by_place requirements_word requirements_of (row requirement) (from_types c e) k (good_row requirement starting_requirement k) (starting_types k)

    pub starting_section : Starting (section c e)
    unfolding section
    starting_section k = starts_after k (expect left) (from_requirements c e) (starts_expect k left) (good_of k (from_requirements c e) (starting_requirements k))

abbrev pub domain_of : Word × List DomainSection → Domain
domain_of x = record { name = x.0; sections = x.1 }

module _ (c : Reader Condition) (e : Reader Effect) (good_c : (k : ℕ) → Good k c) (good_e : (k : ℕ) → Good k e) where
  pub good_domain_with : (k : ℕ) → Good k (domain_with c e)
  unfolding domain_with
  good_domain_with k =
      good_after k (open_with (named (codes "define"))) (after (open_with (named (codes "domain"))) (made domain_of (both (before name (expect right)) (row (section c e)))))
      (good_of k (open_with (named (codes "define"))) (starts_open k (named (codes "define"))))
      (good_after k (open_with (named (codes "domain"))) (made domain_of (both (before name (expect right)) (row (section c e)))) (good_of k (open_with (named (codes "domain"))) (starts_open k (named (codes "domain"))))
      (good_made k domain_of (both (before name (expect right)) (row (section c e)))
      (good_both k (before name (expect right)) (row (section c e)) (good_before k name (expect right) (good_of k name (starting_name k)) (good_of k (expect right) (starts_expect k right)))
      (good_row (section c e) (starting_section c e good_c good_e) k))))
