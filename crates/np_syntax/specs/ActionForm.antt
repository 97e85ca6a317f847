-- How actions are read: their parts one after the other.
use Rattle.std.specs.Prelude.{ℕ, List, Option, codes}
use Rattle.np_lex.specs.Tokens.{right}
use Rattle.np_read.specs.ItemReaders.{Reader, expect, both, made}
use Rattle.np_read.specs.PlacedReaders.{placed}
use Rattle.np_conditions.specs.declared.condition.Condition.{Condition}
use Rattle.np_conditions.specs.declared.effect.Effect.{Effect}
use Rattle.np_syntax.specs.declared.domain.Domain.{Domain}
use Rattle.np_syntax.specs.declared.domain.DomainSection.{DomainSection}
use Rattle.np_syntax.specs.declared.domain.DomainSection.TheVariants as s
use Rattle.np_syntax.specs.declared.read.actions.TheConstants.{DEPTH}
use Rattle.np_words.specs.declared.word.Group.{Group}
use Rattle.np_conditions.specs.ConditionForm.{condition}
use Rattle.np_conditions.specs.EffectForm.{effect}
use Rattle.np_words.specs.ReadingForm.{name}
use Rattle.np_syntax.specs.SectionForm.{parameters, section, domain_with}
use Rattle.np_words.specs.TailedRows.{tail_or_none}
use Rattle.np_words.specs.Text.{keyword_lexeme}

-- so many brackets may be opened one inside the other within that of a condition or an effect of an action
unfoldable pub depth : ℕ
depth = DEPTH

-- a precondition and an effect of an action: their brackets are the third level
unfoldable pub action_condition : Reader Condition
action_condition = condition depth

unfoldable pub action_effect : Reader Effect
action_effect = effect depth

-- the parts of an action, each where it is given, and the closing bracket
unfoldable pub last_part : Reader (Option Effect × Unit {0})
last_part = both (tail_or_none (keyword_lexeme (codes "effect")) action_effect) (expect right)

unfoldable pub later_parts : Reader (Option Condition × (Option Effect × Unit {0}))
later_parts = both (tail_or_none (keyword_lexeme (codes "precondition")) action_condition) last_part

unfoldable pub parts : Reader (Option (List Group) × (Option Condition × (Option Effect × Unit {0})))
parts = both (tail_or_none (keyword_lexeme (codes "parameters")) parameters) later_parts

unfoldable pub action_by_parts : Reader DomainSection
action_by_parts = made (λ x. s.Action x.0 x.1.0 x.1.1.0 x.1.1.1.0 x.1.1.1.1.0) (both (placed (keyword_lexeme (codes "action"))) (both name parts))

-- a section, and a domain
abbrev pub domain_section : Reader DomainSection
domain_section = section action_condition action_effect

abbrev pub domain : Reader Domain
domain = domain_with action_condition action_effect
