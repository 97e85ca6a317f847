-- The parts of actions are read one after the other.
use Rattle.std.proofs.Common.{◌≡◌, ◌⊎◌, inl, inr, List, [], ◌∷◌, Option, None, Some, Result, Ok, Err, refl, sym, ap, subst, ◌∙◌}
use Rattle.np_lex.specs.declared.reading.Lexer.{Lexer}
use Rattle.np_lex.specs.Lexers.{items_left, Leaves, Takes}
use Rattle.np_lex.specs.Tokens.{Lexeme, word, Item, right}
use Rattle.np_read.specs.declared.fault.ReadFault.{ReadFault}
use Rattle.np_read.specs.ItemAnswers.{Gives}
use Rattle.np_read.specs.ItemReaders.{Outcome, Reader, and_then, pure, expect, both, made}
use Rattle.np_read.specs.PlacedReaders.{placed}
use Rattle.np_read.proofs.GoodParts.{either_nothing}
use Rattle.np_read.proofs.ItemChoices.{is_wanted, either_taken, either_other}
use Rattle.np_conditions.specs.declared.condition.Condition.{Condition}
use Rattle.np_conditions.specs.declared.effect.Effect.{Effect}
use Rattle.np_syntax.specs.declared.domain.DomainSection.{DomainSection}
use Rattle.np_lex.specs.declared.token.Place.{Place}
use Rattle.np_words.specs.declared.word.Group.{Group}
use Rattle.np_words.specs.declared.word.Word.{Word}
use Rattle.np_words.specs.ReadingForm.{name}
use Rattle.np_syntax.specs.SectionForm.{given, parameters, from_effect, from_precondition, from_parameters, from_action}
use Rattle.np_syntax.specs.ActionForm.{action_condition, action_effect, last_part, later_parts, parts, action_by_parts}
use Rattle.np_words.specs.TailedRows.{tail_or_none}
use Rattle.np_syntax.proofs.Sections.{effect_word, precondition_word, parameters_word, action_word, action_of, Parts}
use Rattle.np_words.proofs.TailedLexing.{tail_comes, no_tail}

-- ---- what is given is a value or none, and then the rest

module _ {A B : Type 0} (lexeme : Lexeme) (p : Reader A) (q : Reader B) where
  abbrev with_some : A × B → Option A × B
  with_some x = (Some x.0, x.1)

  abbrev with_none : B → Option A × B
  with_none b = (None, b)

  abbrev rest_after : Option A → Reader (Option A × B)
  rest_after o rest = and_then (q rest) (λ b more. Ok ((o, b), more))

  some_rest : (a : A) (x : Outcome B) → and_then (and_then x (λ b more. Ok ((a, b), more))) (λ y rest. Ok (with_some y, rest)) ≡ and_then x (λ b more. Ok ((Some a, b), more))
  some_rest a (Ok x) = refl
  some_rest a (Err rest) = refl

  some_first : (x : Outcome A) → and_then (and_then x (λ a rest. and_then (q rest) (λ b more. Ok ((a, b), more)))) (λ y rest. Ok (with_some y, rest)) ≡ and_then (and_then x (λ a rest. Ok (Some a, rest))) rest_after
  some_first (Ok x) = some_rest x.0 (q x.1)
  some_first (Err rest) = refl

  given_by : (item : Item) (items : List Item) → (item.piece ≡ word lexeme) ⊎ (item.piece ≡ word lexeme → ⊥) → given lexeme p q (item ∷ items) ≡ both (tail_or_none lexeme p) q (item ∷ items)
  given_by item items (inl is) =
      either_taken lexeme (made with_some (both p q)) (made with_none q) item items is ∙ some_first (p items)
      ∙ sym (ap (λ (x : Outcome (Option A)). and_then x rest_after) (either_taken lexeme (made (λ b. Some b) p) (pure None) item items is))
  given_by item items (inr never) =
      either_other lexeme (made with_some (both p q)) (made with_none q) item items never
      ∙ sym (ap (λ (x : Outcome (Option A)). and_then x rest_after) (either_other lexeme (made (λ b. Some b) p) (pure None) item items never))

  given_is : (items : List Item) → given lexeme p q items ≡ both (tail_or_none lexeme p) q items
  given_is [] =
      either_nothing lexeme (made with_some (both p q)) (made with_none q) ∙ sym (ap (λ (x : Outcome (Option A)). and_then x rest_after) (either_nothing lexeme (made (λ b. Some b) p) (pure None)))
  given_is (item ∷ items) = given_by item items (is_wanted lexeme item.piece)

-- what follows may be read otherwise
abbrev pair_first : {A B : Type 0} → Reader B → A → Reader (A × B)
pair_first q a rest = and_then (q rest) (λ b more. Ok ((a, b), more))

both_same_by : {A B : Type 0} (q r : Reader B) → ((items : List Item) → q items ≡ r items) → (x : Outcome A) → and_then x (pair_first q) ≡ and_then x (pair_first r)
both_same_by {A = A} {B = B} q r same (Ok x) = ap (λ (y : Outcome B). and_then {B = A × B} y (λ b more. Ok ((x.0, b), more))) (same x.1)
both_same_by q r same (Err rest) = refl

both_same : {A B : Type 0} (p : Reader A) (q r : Reader B) → ((items : List Item) → q items ≡ r items) → (items : List Item) → both p q items ≡ both p r items
both_same p q r same items = both_same_by q r same (p items)

effect_is : (items : List Item) → from_effect action_condition action_effect items ≡ last_part items
unfolding from_effect last_part
effect_is items = given_is effect_word action_effect (expect right) items

precondition_is : (items : List Item) → from_precondition action_condition action_effect items ≡ later_parts items
unfolding from_precondition later_parts
precondition_is items =
    given_is precondition_word action_condition (from_effect action_condition action_effect) items
    ∙ both_same (tail_or_none precondition_word action_condition) (from_effect action_condition action_effect) last_part effect_is items

parts_are : (items : List Item) → from_parameters action_condition action_effect items ≡ parts items
unfolding from_parameters parts
parts_are items =
    given_is parameters_word parameters (from_precondition action_condition action_effect) items
    ∙ both_same (tail_or_none parameters_word parameters) (from_precondition action_condition action_effect) later_parts precondition_is items

action_is : (items : List Item) → from_action action_condition action_effect items ≡ action_by_parts items
unfolding from_action action_by_parts
action_is items =
    ap (λ (x : Outcome (Place × (Word × Parts))). and_then x (λ y rest. Ok (action_of y, rest)))
    (both_same (placed action_word) (both name (from_parameters action_condition action_effect)) (both name parts) (both_same name (from_parameters action_condition action_effect) parts parts_are) items)

pub gives_action : (items rest : List Item) (r : Result DomainSection ReadFault) → Gives (λ v. v) rest r (action_by_parts items) → Gives (λ v. v) rest r (from_action action_condition action_effect items)
gives_action items rest r gives = subst (λ (x : Outcome DomainSection). Gives (λ v. v) rest r x) (sym (action_is items)) gives

-- ---- a part, where its keyword comes next

module _ (old new : Lexer) where
  module _ {A : Type 0} (lexeme : Lexeme) (q : Reader A) (rest : List Item) (r : Result (Option A) ReadFault) where
    comes : Takes old new lexeme → Gives (λ o. o) rest r (made (λ a. Some a) q (items_left new)) → Gives (λ o. o) rest r (tail_or_none lexeme q (items_left old))
    comes takes gives = subst (λ (x : Outcome (Option A)). Gives (λ o. o) rest r x) (sym (tail_comes lexeme q old new takes)) gives

  pub parameters_come : (rest : List Item) (r : Result (Option (List Group)) ReadFault) → Takes old new parameters_word → Gives (λ o. o) rest r (made (λ a. Some a) parameters (items_left new)) → Gives (λ o. o) rest r (tail_or_none parameters_word parameters (items_left old))
  parameters_come rest r takes gives = comes parameters_word parameters rest r takes gives

  pub no_parameters : Leaves old new (λ found. found ≡ parameters_word) → tail_or_none parameters_word parameters (items_left old) ≡ Ok (None, items_left new)
  no_parameters leaves = no_tail parameters_word parameters old new leaves

  pub condition_comes : (rest : List Item) (r : Result (Option Condition) ReadFault) → Takes old new precondition_word → Gives (λ o. o) rest r (made (λ a. Some a) action_condition (items_left new)) → Gives (λ o. o) rest r (tail_or_none precondition_word action_condition (items_left old))
  condition_comes rest r takes gives = comes precondition_word action_condition rest r takes gives

  pub no_condition : Leaves old new (λ found. found ≡ precondition_word) → tail_or_none precondition_word action_condition (items_left old) ≡ Ok (None, items_left new)
  no_condition leaves = no_tail precondition_word action_condition old new leaves

  pub effect_comes : (rest : List Item) (r : Result (Option Effect) ReadFault) → Takes old new effect_word → Gives (λ o. o) rest r (made (λ a. Some a) action_effect (items_left new)) → Gives (λ o. o) rest r (tail_or_none effect_word action_effect (items_left old))
  effect_comes rest r takes gives = comes effect_word action_effect rest r takes gives

  pub no_effect : Leaves old new (λ found. found ≡ effect_word) → tail_or_none effect_word action_effect (items_left old) ≡ Ok (None, items_left new)
  no_effect leaves = no_tail effect_word action_effect old new leaves
