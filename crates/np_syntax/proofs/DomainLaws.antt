-- The text of a domain: what is read is spelled so, and back, and it stands at its places.
use Rattle.std.proofs.Common.{◌≡◌, ℕ}
use Rattle.np_read.specs.Marks.{Marking}
use Rattle.np_read.specs.Printers.{Printed}
use Rattle.np_read.proofs.Good.{Good, Starting, good_of}
use Rattle.np_read.proofs.Spelled.{Reads}
use Rattle.np_read.proofs.Marked.{Placed}
use Rattle.np_syntax.specs.declared.domain.Domain.{Domain}
use Rattle.np_conditions.specs.ConditionForm as conditions
use Rattle.np_conditions.specs.EffectForm as effects
use Rattle.np_conditions.specs.ConditionText.{bare_condition}
use Rattle.np_conditions.specs.ConditionText as condition_text
use Rattle.np_conditions.specs.EffectText.{bare_effect}
use Rattle.np_conditions.specs.EffectText as effect_text
use Rattle.np_syntax.specs.SectionText as section_text
use Rattle.np_words.specs.Text.{spelled, marked}
use Rattle.np_syntax.specs.ActionForm.{depth, action_condition, action_effect, domain_section, domain}
use Rattle.np_syntax.specs.Domains.{IsActionCondition, IsActionEffect, IsDomain, bare_domain}
use Rattle.np_conditions.proofs.ConditionStarts.{starting_condition}
use Rattle.np_conditions.proofs.ConditionReads.{SameCondition, reads_condition}
use Rattle.np_conditions.proofs.ConditionPlaced.{placed_condition}
use Rattle.np_conditions.proofs.EffectStarts.{starting_effect}
use Rattle.np_conditions.proofs.EffectReads.{SameEffect, reads_effect}
use Rattle.np_conditions.proofs.EffectPlaced.{placed_effect}
use Rattle.np_syntax.proofs.Sections.{starting_section, good_domain_with}
use Rattle.np_syntax.proofs.SectionReads.{reads_domain_with, placed_domain_with}

-- ---- conditions and effects of actions

good_condition : (k : ℕ) → Good k action_condition
unfolding action_condition
good_condition k = good_of k (conditions.condition depth) (starting_condition depth k)

good_effect : (k : ℕ) → Good k action_effect
unfolding action_effect
good_effect k = good_of k (effects.effect depth) (starting_effect depth k)

reads_action_condition : Reads IsActionCondition (condition_text.condition spelled) SameCondition action_condition
unfolding action_condition IsActionCondition
reads_action_condition = reads_condition depth

reads_action_effect : Reads IsActionEffect (effect_text.effect spelled) SameEffect action_effect
unfolding action_effect IsActionEffect
reads_action_effect = reads_effect depth

placed_action_condition : Placed IsActionCondition (condition_text.condition marked) action_condition
unfolding action_condition IsActionCondition
placed_action_condition = placed_condition depth

placed_action_effect : Placed IsActionEffect (effect_text.effect marked) action_effect
unfolding action_effect IsActionEffect
placed_action_effect = placed_effect depth

-- ---- domains

pub starting_domain_section : Starting domain_section
starting_domain_section = starting_section action_condition action_effect good_condition good_effect

pub good_domain : (k : ℕ) → Good k domain
good_domain = good_domain_with action_condition action_effect good_condition good_effect

abbrev pub print_domain : Domain → Printed
print_domain = section_text.domain_with spelled (condition_text.condition spelled) (effect_text.effect spelled)

abbrev pub mark_domain : Domain → Marking
mark_domain = section_text.domain_with marked (condition_text.condition marked) (effect_text.effect marked)

abbrev pub SameDomain : Domain → Domain → Type 0
SameDomain a b = bare_domain a ≡ bare_domain b

pub reads_domain : Reads IsDomain print_domain SameDomain domain
reads_domain =
    reads_domain_with action_condition action_effect IsActionCondition IsActionEffect good_condition good_effect bare_condition bare_effect (condition_text.condition spelled) (effect_text.effect spelled)
    reads_action_condition reads_action_effect

pub placed_domain : Placed IsDomain mark_domain domain
placed_domain = placed_domain_with action_condition action_effect IsActionCondition IsActionEffect (condition_text.condition marked) (effect_text.effect marked) placed_action_condition placed_action_effect
