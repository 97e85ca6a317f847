-- Sections that come again.
use Rattle.std.proofs.Common.{◌≡◌, false, List, [], ◌∷◌, refl, Option}
use Rattle.std.specs.List.{list_any}
use Rattle.np_lex.specs.declared.token.Place.{Place}
use Rattle.np_words.specs.declared.word.Word.{Word}
use Rattle.np_words.specs.declared.word.Group.{Group}
use Rattle.np_conditions.specs.declared.condition.Condition.{Condition}
use Rattle.np_conditions.specs.declared.effect.Effect.{Effect}
use Rattle.np_syntax.specs.declared.domain.DomainSection.{DomainSection}
use Rattle.np_syntax.specs.declared.domain.DomainSection.TheVariants as d
use Rattle.np_names.specs.Sections.{same_section}

-- an action never comes again
pub no_action_again : (place : Place) (w : Word) (gs : Option (List Group)) (c : Option Condition) (e : Option Effect) (before : List DomainSection)
    → list_any (same_section (d.Action place w gs c e)) before ≡ false
no_action_again place w gs c e [] = refl
no_action_again place w gs c e (s ∷ before) = no_action_again place w gs c e before
