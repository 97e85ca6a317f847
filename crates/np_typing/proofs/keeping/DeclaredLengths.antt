-- The texts of a pair have fewer than 2^31 tokens, so that what they declare is short.
use Rattle.std.proofs.Common.{◌≡◌, ℕ, suc, ◌+◌, ◌<◌, ◌≤◌, ◌^◌, Bool, true, false, refl, sym, ◌∙◌, ap, arith, List, [], ◌∷◌, length, length-append, Option, Some, None, codes}
use Rattle.std.specs.Prelude.{All}
use Rattle.std.specs.List.{flat_map}
use Rattle.std.proofs.lemmas.List.{length-map}
use Rattle.std.proofs.lemmas.List.Elements.{All-nil, All-cons, All-weaker}
use Rattle.np_lex.specs.declared.token.Place.{Place}
use Rattle.np_lex.specs.Tokens.{Lexeme}
use Rattle.np_read.specs.Marks.{each}
use Rattle.np_model.specs.Tasks.{IsShort}
use Rattle.np_words.specs.declared.word.Word.{Word}
use Rattle.np_words.specs.declared.word.Group.{Group}
use Rattle.np_words.specs.declared.word.ListKind.{ListKind}
use Rattle.np_words.specs.declared.word.ListKind.TheVariants.{Names, Variables}
use Rattle.np_conditions.specs.declared.condition.Condition.{Condition}
use Rattle.np_conditions.specs.declared.effect.Effect.{Effect}
use Rattle.np_syntax.specs.declared.domain.Declared.{Declared}
use Rattle.np_syntax.specs.declared.domain.Domain.{Domain}
use Rattle.np_syntax.specs.declared.domain.DomainSection.{DomainSection}
use Rattle.np_syntax.specs.declared.domain.DomainSection.TheVariants as d
use Rattle.np_conditions.specs.ConditionText.{condition}
use Rattle.np_conditions.specs.EffectText.{effect}
use Rattle.np_syntax.specs.DomainText.{declared, function, number_mark}
use Rattle.np_syntax.specs.Domains.{domain_text}
use Rattle.np_syntax.specs.SectionText.{parameters, action_parts, section}
use Rattle.np_syntax.specs.SectionText as written
use Rattle.np_words.specs.Text.{Printer, spelled, right, name, requirement, number, list_word, of_type, group, groups}
use Rattle.np_problem.specs.declared.problem.Fact.{Fact}
use Rattle.np_problem.specs.declared.problem.Fact.TheVariants as fact
use Rattle.np_problem.specs.declared.problem.Problem.{Problem}
use Rattle.np_problem.specs.declared.problem.ProblemSection.{ProblemSection}
use Rattle.np_problem.specs.declared.problem.ProblemSection.TheVariants as p
use Rattle.np_problem.specs.FactText as text
use Rattle.np_problem.specs.ProblemText as whole
use Rattle.np_problem.specs.Problems.{problem_text}
use Rattle.np_names.specs.Names.{words_of, typed_words, given_word, given}
use Rattle.np_declared.specs.Types.{type_words, type_number, numbers_in}
use Rattle.np_typing.specs.Scopes.{Scope, with_parameters}
use Rattle.np_declared.specs.Symbols.{type_names_of, if_given}
use Rattle.np_typing.specs.Resolved.{conditions_of, effects_of}
use Rattle.np_typing.specs.TaskOf.{action_of, section_goals}
use Rattle.np_typing.specs.Typing.{IsSpelledPair}
use Rattle.np_typing.proofs.keeping.DeclaredLists.{every, all_flat_map}
use Rattle.np_typing.proofs.keeping.DeclaredNamed.{typed_words_are}
use Rattle.np_typing.proofs.keeping.DeclaredSizes.{total, each_within, flat_map_within, Adds, each_adds, adds_some, expr_size, condition_size, effect_size, expr_adds, condition_adds, effect_adds, conditions_few, effects_few}

-- ---- typed lists

pub ones : {A : Type 0} (xs : List A) → total (λ _. 1) xs ≡ length xs
ones [] = refl
ones (x ∷ xs) = let h = ones xs in omega arith

list_word_adds : (list_kind : ListKind) (w : Word) → Adds 1 (list_word spelled list_kind w)
list_word_adds Names w rest = omega arith
list_word_adds Variables w rest = omega arith

of_type_adds : (of : Option Word) → Adds (length (given_word of)) (of_type spelled of)
of_type_adds None rest = omega arith
of_type_adds (Some w) rest = omega arith

abbrev group_size : Group → ℕ
group_size g = length (type_words g)

group_adds : (list_kind : ListKind) (g : Group) → Adds (group_size g) (group spelled list_kind g)
group_adds list_kind g rest =
    let a = each_adds (λ _. 1) (list_word spelled list_kind) g.words (λ k d h. list_word_adds list_kind _) (of_type spelled g.of rest) in
    let b = of_type_adds g.of rest in
    let e = ones g.words in
    let f = length-append g.words (given_word g.of) in omega arith

-- a typed list has at least as many tokens as words, those of types included
types_add : (list_kind : ListKind) (gs : List Group) → Adds (length (flat_map type_words gs)) (groups spelled list_kind gs)
types_add list_kind gs rest =
    let a = each_adds group_size (group spelled list_kind) gs (λ k d h. group_adds list_kind _) (right spelled rest) in
    let b = flat_map_within type_words group_size gs (λ k d h. omega arith) in omega arith

words_fewer : (gs : List Group) → length (words_of gs) ≤ length (flat_map type_words gs)
words_fewer [] = omega arith
words_fewer (g ∷ gs) =
    let a = words_fewer gs in
    let e = length-append g.words (words_of gs) in
    let f = length-append (type_words g) (flat_map type_words gs) in
    let i = length-append g.words (given_word g.of) in omega arith

words_add : (list_kind : ListKind) (gs : List Group) → Adds (length (words_of gs)) (groups spelled list_kind gs)
words_add list_kind gs rest = let a = types_add list_kind gs rest in let b = words_fewer gs in omega arith

pub typed_length : (gs : List Group) → length (typed_words gs) ≡ length (words_of gs)
typed_length gs = sym (length-map (typed_words gs) (λ x. x.0)) ∙ ap length (typed_words_are gs)

pub numbers_length : (types : List (List ℕ)) (gs : List Group) → length (numbers_in types gs) ≡ length (words_of gs)
numbers_length types gs = length-map (typed_words gs) (λ (x : Word × Option Word). type_number types x.1) ∙ typed_length gs

-- ---- the sections of a domain

abbrev pub declared_size : Declared → ℕ
declared_size x = suc (length (words_of x.parameters))

abbrev pub given_size : {A : Type 0} → (A → ℕ) → Option A → ℕ
given_size size None = 0
given_size size (Some a) = size a

-- how much a section declares and uses
abbrev pub section_size : DomainSection → ℕ
section_size (d.Requirements place words) = 0
section_size (d.Types place gs) = length (flat_map type_words gs)
section_size (d.Constants place gs) = length (words_of gs)
section_size (d.Predicates place ds) = total declared_size ds
section_size (d.Functions place fs) = total (λ f. declared_size f.0) fs
section_size (d.Action place w gs c e) = suc (length (words_of (given gs)) + (given_size condition_size c + given_size effect_size e))

declared_adds : (x : Declared) → Adds (declared_size x) (declared spelled x)
declared_adds x rest = let a = words_add Variables x.parameters rest in omega arith

mark_adds : (b : Bool) → Adds 0 (number_mark spelled b)
mark_adds true rest = omega arith
mark_adds false rest = omega arith

function_adds : (f : Declared × Bool) → Adds (declared_size f.0) (function spelled f)
function_adds f rest = let a = mark_adds f.1 rest in let b = declared_adds f.0 (number_mark spelled f.1 rest) in omega arith

given_adds : {A : Type 0} (text : List ℕ) (size : A → ℕ) (print : A → Printer Lexeme) → ((a : A) → Adds (size a) (print a)) → (o : Option A) → Adds (given_size size o) (written.given spelled text print o)
given_adds text size print h None rest = omega arith
given_adds text size print h (Some a) rest = let k = h a rest in omega arith

parameters_adds : (gs : List Group) → Adds (length (words_of gs)) (parameters spelled gs)
parameters_adds gs rest = let a = words_add Variables gs rest in omega arith

given_words : (gs : Option (List Group)) → given_size (λ g. length (words_of g)) gs ≡ length (words_of (given gs))
given_words None = refl
given_words (Some gs) = refl

requirements_add : (words : List Word) → Adds 0 (each (requirement spelled) words)
requirements_add words = adds_some (total (λ _. 0) words) (each (requirement spelled) words) (each_adds (λ _. 0) (requirement spelled) words (λ k d h rest. omega arith))

action_adds : (gs : Option (List Group)) (c : Option Condition) (e : Option Effect)
    → Adds (length (words_of (given gs)) + (given_size condition_size c + given_size effect_size e)) (action_parts spelled (condition spelled) (effect spelled) gs c e)
action_adds gs c e rest =
    let third = given_adds (codes "effect") effect_size (effect spelled) effect_adds e (right spelled rest) in
    let after_third : List Lexeme = written.given spelled (codes "effect") (effect spelled) e (right spelled rest) in
    let second = given_adds (codes "precondition") condition_size (condition spelled) condition_adds c after_third in
    let first = given_adds (codes "parameters") (λ g. length (words_of g)) (parameters spelled) parameters_adds gs (written.given spelled (codes "precondition") (condition spelled) c after_third) in
    let same = given_words gs in omega arith

section_adds : (s : DomainSection) → Adds (section_size s) (section spelled (condition spelled) (effect spelled) s)
section_adds (d.Requirements place words) rest = let a = requirements_add words (right spelled rest) in omega arith
section_adds (d.Types place gs) rest = let a = types_add Names gs rest in omega arith
section_adds (d.Constants place gs) rest = let a = words_add Names gs rest in omega arith
section_adds (d.Predicates place ds) rest = let a = each_adds declared_size (declared spelled) ds (every (λ x. Adds (declared_size x) (declared spelled x)) declared_adds ds) (right spelled rest) in omega arith
section_adds (d.Functions place fs) rest = let a = each_adds (λ f. declared_size f.0) (function spelled) fs (every (λ f. Adds (declared_size f.0) (function spelled f)) function_adds fs) (right spelled rest) in omega arith
section_adds (d.Action place w gs c e) rest = let a = action_adds gs c e rest in omega arith

pub domain_within : (domain : Domain) → total section_size domain.sections ≤ length (domain_text domain)
domain_within domain =
    let a = each_adds section_size (section spelled (condition spelled) (effect spelled)) domain.sections (λ k s h. section_adds _) (right spelled []) in omega arith

-- ---- the sections of a problem

abbrev pub problem_section_size : ProblemSection → ℕ
problem_section_size (p.Domain place w) = 0
problem_section_size (p.Requirements place words) = 0
problem_section_size (p.Objects place gs) = length (words_of gs)
problem_section_size (p.Init place facts) = length facts
problem_section_size (p.Goal place c) = condition_size c
problem_section_size (p.Metric place v) = expr_size v

names_add : (words : List Word) → Adds 0 (each (name spelled) words)
names_add words = adds_some (total (λ _. 0) words) (each (name spelled) words) (each_adds (λ _. 0) (name spelled) words (λ k d h rest. omega arith))

ground_adds : (w : Word) (words : List Word) → Adds 1 (text.names spelled w words)
ground_adds w words rest = let a = names_add words (right spelled rest) in omega arith

start_adds : (w : Word) (words : List Word) (alone : Bool) → Adds 0 (text.start spelled w words alone)
start_adds w words true rest = omega arith
start_adds w words false rest = let a = ground_adds w words rest in omega arith

fact_adds : (f : Fact) → Adds 1 (text.fact spelled f)
fact_adds (fact.Atom w words) rest = let a = ground_adds w words rest in omega arith
fact_adds (fact.NotAtom w words) rest = let a = ground_adds w words (right spelled rest) in omega arith
fact_adds (fact.Value w words alone n) rest = let a = start_adds w words alone (number spelled n (right spelled rest)) in omega arith

problem_section_adds : (s : ProblemSection) → Adds (problem_section_size s) (whole.section spelled s)
problem_section_adds (p.Domain place w) rest = omega arith
problem_section_adds (p.Requirements place words) rest = let a = requirements_add words (right spelled rest) in omega arith
problem_section_adds (p.Objects place gs) rest = let a = words_add Names gs rest in omega arith
problem_section_adds (p.Init place facts) rest = let a = each_adds (λ _. 1) (text.fact spelled) facts (λ k f h. fact_adds _) (right spelled rest) in let e = ones facts in omega arith
problem_section_adds (p.Goal place c) rest = let a = condition_adds c (right spelled rest) in omega arith
problem_section_adds (p.Metric place v) rest = let a = expr_adds v [] (right spelled rest) in omega arith

pub problem_within : (problem : Problem) → total problem_section_size problem.sections ≤ length (problem_text problem)
problem_within problem = let a = each_adds problem_section_size (whole.section spelled) problem.sections (λ k s h. problem_section_adds _) (right spelled []) in omega arith

-- ---- together

pub few_together : (domain : Domain) (problem : Problem) → IsSpelledPair domain problem → total section_size domain.sections + total problem_section_size problem.sections < 2 ^ 31
few_together domain problem spelled = let a = domain_within domain in let b = problem_within problem in omega (arith, spelled.few)

-- each section is short
pub sections_short : (domain : Domain) (problem : Problem) → IsSpelledPair domain problem → All (λ s. section_size s < 2 ^ 31) domain.sections
sections_short domain problem spelled =
    let few = few_together domain problem spelled in
    All-weaker (λ s. section_size s ≤ total section_size domain.sections) (λ s. section_size s < 2 ^ 31) (λ s h. omega arith) domain.sections (each_within section_size domain.sections)

pub problem_sections_short : (domain : Domain) (problem : Problem) → IsSpelledPair domain problem → All (λ s. problem_section_size s < 2 ^ 31) problem.sections
problem_sections_short domain problem spelled =
    let few = few_together domain problem spelled in
    All-weaker (λ s. problem_section_size s ≤ total problem_section_size problem.sections) (λ s. problem_section_size s < 2 ^ 31) (λ s h. omega arith) problem.sections (each_within problem_section_size problem.sections)

-- ---- actions

needs_few : (scope : Scope) (o : Option Condition) → length (if_given (conditions_of scope) o) ≤ given_size condition_size o
needs_few scope None = omega arith
needs_few scope (Some c) = conditions_few scope c

effects_fewer : (scope : Scope) (o : Option Effect) → length (if_given (effects_of scope) o) ≤ given_size effect_size o
effects_fewer scope None = omega arith
effects_fewer scope (Some e) = effects_few scope e

module _ (scope : Scope) (place : Place) (w : Word) (gs : Option (List Group)) (c : Option Condition) (e : Option Effect) (short : section_size (d.Action place w gs c e) < 2 ^ 31) where
  pub parameters_short : IsShort (action_of scope w gs c e).parameters
  parameters_short = let same = numbers_length (type_names_of scope.types) (given gs) in omega arith

  pub action_needs_short : IsShort (action_of scope w gs c e).needs
  action_needs_short = let few = needs_few (with_parameters scope (given gs)) c in omega arith

  pub action_effects_short : IsShort (action_of scope w gs c e).effects
  action_effects_short = let few = effects_fewer (with_parameters scope (given gs)) e in omega arith

-- the condition and the effect of an action
pub condition_in_action : (place : Place) (w : Word) (gs : Option (List Group)) (c : Condition) (e : Option Effect) → section_size (d.Action place w gs (Some c) e) < 2 ^ 31 → condition_size c < 2 ^ 31
condition_in_action place w gs c e short = omega arith

pub effect_in_action : (place : Place) (w : Word) (gs : Option (List Group)) (c : Option Condition) (e : Effect) → section_size (d.Action place w gs c (Some e)) < 2 ^ 31 → effect_size e < 2 ^ 31
effect_in_action place w gs c e short = omega arith

-- ---- the goal

goals_step : (s : ProblemSection) → problem_section_size s < 2 ^ 31 → All (λ c. condition_size c < 2 ^ 31) (section_goals s)
goals_step (p.Goal place c) h = All-cons (λ x. condition_size x < 2 ^ 31) c [] h (All-nil (λ x. condition_size x < 2 ^ 31))
goals_step _ h = All-nil (λ x. condition_size x < 2 ^ 31)

-- each goal is short
pub goals_short : (domain : Domain) (problem : Problem) → IsSpelledPair domain problem → All (λ c. condition_size c < 2 ^ 31) (flat_map section_goals problem.sections)
goals_short domain problem spelled =
    all_flat_map (λ c. condition_size c < 2 ^ 31) section_goals problem.sections
    (All-weaker (λ s. problem_section_size s < 2 ^ 31) (λ s. All (λ c. condition_size c < 2 ^ 31) (section_goals s)) goals_step problem.sections (problem_sections_short domain problem spelled))
