-- Sections are read by their keywords.
use Rattle.std.proofs.Common.{◌≡◌, List, [], Result, Ok, Err, sym, ap, subst, ◌∙◌}
use Rattle.np_lex.specs.declared.reading.Lexer.{Lexer}
use Rattle.np_lex.specs.declared.token.Place.{Place}
use Rattle.np_lex.specs.Lexers.{items_left, Leaves}
use Rattle.np_lex.specs.Tokens.{Lexeme, Item}
use Rattle.np_read.specs.declared.fault.ReadFault.{ReadFault}
use Rattle.np_read.specs.declared.fault.ReadFault.TheVariants.{Next, Memory}
use Rattle.np_read.specs.ItemAnswers.{Gives, Stops}
use Rattle.np_read.specs.ItemReaders.{Outcome, Reader, and_then, at_end, made, row, whole}
use Rattle.np_read.specs.PlacedReaders.{place_if, either_by}
use Rattle.np_read.specs.Takes.{TakesAt}
use Rattle.np_read.proofs.PlacedLexing.{first_by, second_by, place_yes, place_no}
use Rattle.np_syntax.specs.declared.domain.DomainSection.{DomainSection}
use Rattle.np_words.specs.declared.word.ListKind.TheVariants.{Names}
use Rattle.np_words.specs.ReadingForm.{requirement}
use Rattle.np_syntax.specs.DomainForm.{typed_list, declared, functions}
use Rattle.np_syntax.specs.SectionForm.{from_action, from_functions, from_predicates, from_constants, from_types, from_requirements}
use Rattle.np_syntax.specs.ActionForm.{action_condition, action_effect}
use Rattle.np_syntax.proofs.Sections.{functions_word, predicates_word, constants_word, types_word, requirements_word, functions_of, predicates_of, constants_of, types_of, requirements_of, action_nothing, functions_nothing, predicates_nothing, constants_nothing, types_nothing}

abbrev Given : {A : Type 0} → List Item → Result A ReadFault → Outcome A → Type 0
Given rest r read = Gives (λ v. v) rest r read

-- a choice by a keyword whose place is kept
module _ {A C : Type 0} (old new : Lexer) (rest : List Item) (r : Result A ReadFault) (lexeme : Lexeme) (make : Place → C → A) (next : Reader C) (second : Reader A) where
  pub by_taken : (place : Place) → TakesAt old new lexeme place → Given rest r (made (make place) next (items_left new)) → Given rest r (either_by (place_if lexeme) (λ p. made (make p) next) second (items_left old))
  by_taken place takes gives =
      subst (λ (x : Outcome A). Given rest r x) (sym (first_by (place_if lexeme) (λ p. made (make p) next) second old new lexeme place place takes (place_yes lexeme place))) gives

  pub by_left : second [] ≡ Err [] → Leaves old new (λ found. found ≡ lexeme) → Given rest r (second (items_left new)) → Given rest r (either_by (place_if lexeme) (λ p. made (make p) next) second (items_left old))
  by_left nothing leaves gives =
      subst (λ (x : Outcome A). Given rest r x) (sym (second_by (place_if lexeme) (λ p. made (make p) next) second old new (λ found. found ≡ lexeme) (place_no lexeme) nothing leaves)) gives

module _ (old new : Lexer) (rest : List Item) (r : Result DomainSection ReadFault) where
  pub functions_taken : (place : Place) → TakesAt old new functions_word place → Given rest r (made (functions_of place) functions (items_left new)) → Given rest r (from_functions action_condition action_effect (items_left old))
  unfolding from_functions
  functions_taken place takes gives = by_taken old new rest r functions_word functions_of functions (from_action action_condition action_effect) place takes gives

  pub functions_left : Leaves old new (λ found. found ≡ functions_word) → Given rest r (from_action action_condition action_effect (items_left new)) → Given rest r (from_functions action_condition action_effect (items_left old))
  unfolding from_functions
  functions_left leaves gives = by_left old new rest r functions_word functions_of functions (from_action action_condition action_effect) (action_nothing action_condition action_effect) leaves gives

  pub predicates_taken : (place : Place) → TakesAt old new predicates_word place → Given rest r (made (predicates_of place) (row declared) (items_left new)) → Given rest r (from_predicates action_condition action_effect (items_left old))
  unfolding from_predicates
  predicates_taken place takes gives = by_taken old new rest r predicates_word predicates_of (row declared) (from_functions action_condition action_effect) place takes gives

  pub predicates_left : Leaves old new (λ found. found ≡ predicates_word) → Given rest r (from_functions action_condition action_effect (items_left new)) → Given rest r (from_predicates action_condition action_effect (items_left old))
  unfolding from_predicates
  predicates_left leaves gives = by_left old new rest r predicates_word predicates_of (row declared) (from_functions action_condition action_effect) (functions_nothing action_condition action_effect) leaves gives

  pub constants_taken : (place : Place) → TakesAt old new constants_word place → Given rest r (made (constants_of place) (typed_list Names) (items_left new)) → Given rest r (from_constants action_condition action_effect (items_left old))
  unfolding from_constants
  constants_taken place takes gives = by_taken old new rest r constants_word constants_of (typed_list Names) (from_predicates action_condition action_effect) place takes gives

  pub constants_left : Leaves old new (λ found. found ≡ constants_word) → Given rest r (from_predicates action_condition action_effect (items_left new)) → Given rest r (from_constants action_condition action_effect (items_left old))
  unfolding from_constants
  constants_left leaves gives = by_left old new rest r constants_word constants_of (typed_list Names) (from_predicates action_condition action_effect) (predicates_nothing action_condition action_effect) leaves gives

  pub types_taken : (place : Place) → TakesAt old new types_word place → Given rest r (made (types_of place) (typed_list Names) (items_left new)) → Given rest r (from_types action_condition action_effect (items_left old))
  unfolding from_types
  types_taken place takes gives = by_taken old new rest r types_word types_of (typed_list Names) (from_constants action_condition action_effect) place takes gives

  pub types_left : Leaves old new (λ found. found ≡ types_word) → Given rest r (from_constants action_condition action_effect (items_left new)) → Given rest r (from_types action_condition action_effect (items_left old))
  unfolding from_types
  types_left leaves gives = by_left old new rest r types_word types_of (typed_list Names) (from_constants action_condition action_effect) (constants_nothing action_condition action_effect) leaves gives

  pub requirements_taken : (place : Place) → TakesAt old new requirements_word place → Given rest r (made (requirements_of place) (row requirement) (items_left new)) → Given rest r (from_requirements action_condition action_effect (items_left old))
  unfolding from_requirements
  requirements_taken place takes gives = by_taken old new rest r requirements_word requirements_of (row requirement) (from_types action_condition action_effect) place takes gives

  pub requirements_left : Leaves old new (λ found. found ≡ requirements_word) → Given rest r (from_types action_condition action_effect (items_left new)) → Given rest r (from_requirements action_condition action_effect (items_left old))
  unfolding from_requirements
  requirements_left leaves gives = by_left old new rest r requirements_word requirements_of (row requirement) (from_types action_condition action_effect) (types_nothing action_condition action_effect) leaves gives

-- ---- a whole text

module _ {A : Type 0} (p : Reader A) where
  abbrev ending : A → Reader A
  ending a rest = and_then (at_end rest) (λ _ more. Ok (a, more))

  pub whole_stops : (fault : ReadFault) (items rest : List Item) → Stops rest fault (p items) → Stops rest fault (whole p items)
  whole_stops Next items rest stops = ap (λ (x : Outcome A). and_then x ending) stops
  whole_stops Memory items rest stops = tt

  pub whole_more : (items rest : List Item) (a : A) → p items ≡ Ok (a, rest) → at_end rest ≡ Err rest → whole p items ≡ Err rest
  whole_more items rest a is more = ap (λ (x : Outcome A). and_then x ending) is ∙ ap (λ (x : Outcome (Unit {0})). and_then x (λ _ last. Ok (a, last))) more

  pub whole_ends : (items rest : List Item) (a : A) → p items ≡ Ok (a, rest) → at_end rest ≡ Ok (tt, []) → whole p items ≡ Ok (a, [])
  whole_ends items rest a is last = ap (λ (x : Outcome A). and_then x ending) is ∙ ap (λ (x : Outcome (Unit {0})). and_then x (λ _ more. Ok (a, more))) last
