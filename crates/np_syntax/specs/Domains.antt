-- What a text of a domain spells, where the places are that a domain keeps, and which domain is read.
use Rattle.std.specs.Prelude.{◌≡◌, ℕ, suc, List, [], Ok}
use Rattle.np_lex.specs.Tokens.{Lexeme, items_of}
use Rattle.np_read.specs.ItemReaders.{whole}
use Rattle.np_read.specs.Marks.{Mark}
use Rattle.np_conditions.specs.declared.condition.Condition.{Condition}
use Rattle.np_conditions.specs.declared.effect.Effect.{Effect}
use Rattle.np_syntax.specs.declared.domain.Domain.{Domain}
use Rattle.np_syntax.specs.ActionForm.{depth, domain}
use Rattle.np_conditions.specs.ConditionText.{condition, IsCondition, bare_condition}
use Rattle.np_conditions.specs.EffectText.{effect, IsEffect, bare_effect}
use Rattle.np_syntax.specs.SectionText.{domain_with, IsDomainWith, bare_domain_with}
use Rattle.np_words.specs.Text.{spelled, marked}
use Rattle.np_words.specs.Texts.{IsSpelled, KeepsPlaces}

-- brackets nest at most MOST_LEVELS deep, which is 256: the bracket of an action's condition or effect is the third level, so that
-- it takes up one of 254 levels
unfoldable pub IsActionCondition : Condition → Type 0
IsActionCondition = IsCondition (suc depth)

unfoldable pub IsActionEffect : Effect → Type 0
IsActionEffect = IsEffect (suc depth)

-- a domain that has a text, where numbers may have any number of digits
abbrev pub IsDomain : Domain → Type 0
IsDomain = IsDomainWith IsActionCondition IsActionEffect

-- its lexemes
abbrev pub domain_text : Domain → List Lexeme
domain_text d = domain_with spelled (condition spelled) (effect spelled) d []

-- its lexemes with the places that it keeps for them
abbrev pub domain_marks : Domain → List Mark
domain_marks d = domain_with marked (condition marked) (effect marked) d []

-- a domain without its places
abbrev pub bare_domain : Domain → Domain
bare_domain = bare_domain_with bare_condition bare_effect

-- the bytes spell this domain: their lexemes are its own, and no number has too many digits
abbrev pub Spells : List ℕ → Domain → Type 0
Spells = IsSpelled IsDomain domain_text

-- each place that the domain keeps is that of its token in the bytes
abbrev pub IsPlaced : List ℕ → Domain → Type 0
IsPlaced = KeepsPlaces domain_marks

-- reading the items of the bytes, one after the other, gives this domain, with the places of its tokens: of one text at most one is read
abbrev pub IsRead : List ℕ → Domain → Type 0
IsRead bytes d = whole domain (items_of bytes) ≡ Ok (d, [])
