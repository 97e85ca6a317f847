-- The sections of a domain: their text, which of them have one, and what they are without places.
use Rattle.std.specs.Prelude.{ℕ, List, All, map, Option, None, Some, codes}
use Rattle.std.specs.Option.{option_map}
use Rattle.np_lex.specs.declared.token.Place.{Place}
use Rattle.np_lex.specs.Tokens.{Lexeme}
use Rattle.np_read.specs.Marks.{each}
use Rattle.np_conditions.specs.declared.condition.Condition.{Condition}
use Rattle.np_conditions.specs.declared.effect.Effect.{Effect}
use Rattle.np_syntax.specs.declared.domain.Domain.{Domain}
use Rattle.np_syntax.specs.declared.domain.DomainSection.{DomainSection}
use Rattle.np_syntax.specs.declared.domain.DomainSection.TheVariants as s
use Rattle.np_words.specs.declared.word.Group.{Group}
use Rattle.np_words.specs.declared.word.ListKind.TheVariants.{Names, Variables}
use Rattle.np_words.specs.Bare.{nowhere, bare_word, bare_groups}
use Rattle.np_syntax.specs.DomainText.{declared, function, IsDeclared, IsFunction, bare_declared, bare_function}
use Rattle.np_words.specs.Text.{Printer, left, right, fixed_name, keyword, keyword_at, name, requirement, groups}
use Rattle.np_words.specs.Written.{IsWord, IsName, AreGroups}

-- what may be missing
abbrev pub IfGiven : {A : Type 0} → (A → Type 0) → Option A → Type 0
IfGiven P None = Unit {0}
IfGiven P (Some a) = P a

-- ---- the text, by that of conditions and effects

-- a keyword and what follows it, where it is given
abbrev pub given : {T A : Type 0} → (List Place → Lexeme → T) → List ℕ → (A → Printer T) → Option A → Printer T
given token text print None rest = rest
given token text print (Some a) rest = keyword token text (print a rest)

-- parameters in brackets
abbrev pub parameters : {T : Type 0} → (List Place → Lexeme → T) → List Group → Printer T
parameters token gs rest = left token (groups token Variables gs rest)

module _ {T : Type 0} (token : List Place → Lexeme → T) (condition : Condition → Printer T) (effect : Effect → Printer T) where
  -- the parts of an action after its name, each where it is given
  abbrev pub action_parts : Option (List Group) → Option Condition → Option Effect → Printer T
  action_parts gs c e rest = given token (codes "parameters") (parameters token) gs (given token (codes "precondition") condition c (given token (codes "effect") effect e (right token rest)))

  -- a section after its bracket
  abbrev pub section_inside : DomainSection → Printer T
  section_inside (s.Requirements place words) rest = keyword_at token place (codes "requirements") (each (requirement token) words (right token rest))
  section_inside (s.Types place gs) rest = keyword_at token place (codes "types") (groups token Names gs rest)
  section_inside (s.Constants place gs) rest = keyword_at token place (codes "constants") (groups token Names gs rest)
  section_inside (s.Predicates place ds) rest = keyword_at token place (codes "predicates") (each (declared token) ds (right token rest))
  section_inside (s.Functions place fs) rest = keyword_at token place (codes "functions") (each (function token) fs (right token rest))
  section_inside (s.Action place w gs c e) rest = keyword_at token place (codes "action") (name token w (action_parts gs c e rest))

  abbrev pub section : DomainSection → Printer T
  section v rest = left token (section_inside v rest)

  -- (define (domain name) section ..)
  abbrev pub domain_with : Domain → Printer T
  domain_with d rest = left token (fixed_name token (codes "define") (left token (fixed_name token (codes "domain") (name token d.name (right token (each section d.sections (right token rest)))))))

-- ---- which have a text

module _ (IsCondition : Condition → Type 0) (IsEffect : Effect → Type 0) where
  abbrev pub IsSection : DomainSection → Type 0
  IsSection (s.Requirements place words) = All IsWord words
  IsSection (s.Types place gs) = AreGroups Names gs
  IsSection (s.Constants place gs) = AreGroups Names gs
  IsSection (s.Predicates place ds) = All IsDeclared ds
  IsSection (s.Functions place fs) = All IsFunction fs
  IsSection (s.Action place w gs c e) = IsName w × (IfGiven (AreGroups Variables) gs × (IfGiven IsCondition c × IfGiven IsEffect e))

  abbrev pub IsDomainWith : Domain → Type 0
  IsDomainWith d = IsName d.name × All IsSection d.sections

-- ---- the same without places

module _ (bare_condition : Condition → Condition) (bare_effect : Effect → Effect) where
  abbrev pub bare_section : DomainSection → DomainSection
  bare_section (s.Requirements place words) = s.Requirements nowhere (map bare_word words)
  bare_section (s.Types place gs) = s.Types nowhere (bare_groups gs)
  bare_section (s.Constants place gs) = s.Constants nowhere (bare_groups gs)
  bare_section (s.Predicates place ds) = s.Predicates nowhere (map bare_declared ds)
  bare_section (s.Functions place fs) = s.Functions nowhere (map bare_function fs)
  bare_section (s.Action place w gs c e) = s.Action nowhere (bare_word w) (option_map bare_groups gs) (option_map bare_condition c) (option_map bare_effect e)

  abbrev pub bare_domain_with : Domain → Domain
  bare_domain_with d = record { name = bare_word d.name; sections = map bare_section d.sections }
