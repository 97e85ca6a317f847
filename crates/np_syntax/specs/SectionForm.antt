-- How sections are read.
use Rattle.std.specs.Prelude.{List, Option, None, Some, codes}
use Rattle.np_lex.specs.Tokens.{Lexeme, left, right, named}
use Rattle.np_read.specs.ItemReaders.{Reader, expect, open_with, either, after, before, both, made, row}
use Rattle.np_read.specs.PlacedReaders.{place_if, placed, either_by}
use Rattle.np_conditions.specs.declared.condition.Condition.{Condition}
use Rattle.np_conditions.specs.declared.effect.Effect.{Effect}
use Rattle.np_syntax.specs.declared.domain.Domain.{Domain}
use Rattle.np_syntax.specs.declared.domain.DomainSection.{DomainSection}
use Rattle.np_syntax.specs.declared.domain.DomainSection.TheVariants as s
use Rattle.np_words.specs.declared.word.Group.{Group}
use Rattle.np_words.specs.declared.word.ListKind.TheVariants.{Names, Variables}
use Rattle.np_syntax.specs.DomainForm.{typed_list, declared, functions}
use Rattle.np_words.specs.ReadingForm.{name, requirement}
use Rattle.np_words.specs.Text.{keyword_lexeme}

-- what follows this lexeme where it comes next, and then the rest
abbrev pub given : {A B : Type 0} → Lexeme → Reader A → Reader B → Reader (Option A × B)
given lexeme reader rest = either lexeme (made (λ x. (Some x.0, x.1)) (both reader rest)) (made (λ b. (None, b)) rest)

-- parameters in brackets
unfoldable pub parameters : Reader (List Group)
parameters = after (expect left) (typed_list Variables)

-- by how conditions and effects are read
module _ (condition : Reader Condition) (effect : Reader Effect) where
  -- the parts of an action, each where it is given, with those after it and the closing bracket
  unfoldable pub from_effect : Reader (Option Effect × Unit {0})
  from_effect = given (keyword_lexeme (codes "effect")) effect (expect right)

  unfoldable pub from_precondition : Reader (Option Condition × (Option Effect × Unit {0}))
  from_precondition = given (keyword_lexeme (codes "precondition")) condition from_effect

  unfoldable pub from_parameters : Reader (Option (List Group) × (Option Condition × (Option Effect × Unit {0})))
  from_parameters = given (keyword_lexeme (codes "parameters")) parameters from_precondition

  -- the kinds of sections after the bracket, each with those that are tried after it
  unfoldable pub from_action : Reader DomainSection
  from_action = made (λ x. s.Action x.0 x.1.0 x.1.1.0 x.1.1.1.0 x.1.1.1.1.0) (both (placed (keyword_lexeme (codes "action"))) (both name from_parameters))

  unfoldable pub from_functions : Reader DomainSection
  from_functions = either_by (place_if (keyword_lexeme (codes "functions"))) (λ place. made (λ fs. s.Functions place fs) functions) from_action

  unfoldable pub from_predicates : Reader DomainSection
  from_predicates = either_by (place_if (keyword_lexeme (codes "predicates"))) (λ place. made (λ ds. s.Predicates place ds) (row declared)) from_functions

  unfoldable pub from_constants : Reader DomainSection
  from_constants = either_by (place_if (keyword_lexeme (codes "constants"))) (λ place. made (λ gs. s.Constants place gs) (typed_list Names)) from_predicates

  unfoldable pub from_types : Reader DomainSection
  from_types = either_by (place_if (keyword_lexeme (codes "types"))) (λ place. made (λ gs. s.Types place gs) (typed_list Names)) from_constants

  unfoldable pub from_requirements : Reader DomainSection
  from_requirements = either_by (place_if (keyword_lexeme (codes "requirements"))) (λ place. made (λ words. s.Requirements place words) (row requirement)) from_types

  -- a section
  unfoldable pub section : Reader DomainSection
  section = after (expect left) from_requirements

  -- (define (domain name) section ..)
  unfoldable pub domain_with : Reader Domain
  domain_with =
      after (open_with (named (codes "define"))) (after (open_with (named (codes "domain"))) (made (λ x. record { name = x.0; sections = x.1 }) (both (before name (expect right)) (row section))))
