-- Sections are read as they are spelled, and stand where they say, where conditions and effects are and do.
use Rattle.std.proofs.Common.{◌≡◌, ◌⊎◌, inl, inr, ℕ, Bool, List, ◌∷◌, refl, ap, subst, codes}
use Rattle.std.specs.List.{All}
use Rattle.np_lex.specs.declared.token.Place.{Place}
use Rattle.np_lex.specs.Tokens.{left, right, named}
use Rattle.np_read.specs.Marks.{Marking, each}
use Rattle.np_read.specs.Printers.{Printed}
use Rattle.np_read.specs.ItemReaders.{Reader, row}
use Rattle.np_read.proofs.Good.{Good}
use Rattle.np_read.proofs.Spelled.{Reads, Made, GoodPair, SamePair, IsAny, SameUnit, only, reads_expect, reads_open, reads_both, reads_made, reads_after, reads_before, reads_same}
use Rattle.np_read.proofs.Marked.{Placed, plain, only_mark, placed_expect, placed_open, placed_both, placed_made, placed_after, placed_before, placed_same, placed_row}
use Rattle.np_read.proofs.EachRows.{reads_each_row}
use Rattle.np_read.proofs.ItemChoices.{expect_nothing}
use Rattle.np_read.proofs.PlacedParts.{MadeOf, IsAnyPlace, SamePlace, reads_placed, placed_placed}
use Rattle.np_conditions.specs.declared.condition.Condition.{Condition}
use Rattle.np_conditions.specs.declared.effect.Effect.{Effect}
use Rattle.np_syntax.specs.declared.domain.Domain.{Domain}
use Rattle.np_syntax.specs.declared.domain.Declared.{Declared}
use Rattle.np_syntax.specs.declared.domain.DomainSection.{DomainSection}
use Rattle.np_syntax.specs.declared.domain.DomainSection.TheVariants as s
use Rattle.np_words.specs.declared.word.Word.{Word}
use Rattle.np_words.specs.declared.word.Group.{Group}
use Rattle.np_words.specs.declared.word.ListKind.TheVariants.{Names, Variables}
use Rattle.np_words.specs.Bare.{nowhere, bare_word, bare_groups}
use Rattle.np_syntax.specs.DomainText.{IsDeclared, IsFunction, bare_declared}
use Rattle.np_syntax.specs.SectionText.{IfGiven, section_inside, IsSection, IsDomainWith, bare_section, bare_domain_with}
use Rattle.np_syntax.specs.SectionText as section_text
use Rattle.np_words.specs.Text.{Printer, spelled, marked}
use Rattle.np_words.specs.Text as text
use Rattle.np_words.specs.Written.{IsWord, IsName, AreGroups}
use Rattle.np_words.specs.ReadingForm.{requirement}
use Rattle.np_syntax.specs.DomainForm.{typed_list, declared, functions}
use Rattle.np_syntax.specs.SectionForm.{from_effect, from_precondition, from_parameters, from_action, from_functions, from_predicates, from_constants, from_types, from_requirements, section, domain_with}
use Rattle.np_words.proofs.ReadingWords.{SameWord, starting_requirement, reads_name, placed_name, reads_requirement, placed_requirement, requirement_avoids}
use Rattle.np_syntax.proofs.TypedLists.{reads_typed_list, placed_typed_list}
use Rattle.np_syntax.proofs.Declarations.{starting_declared, reads_declared, placed_declared, declared_avoids, reads_functions, placed_functions}
use Rattle.np_syntax.proofs.Givens.{print_both, GoodGiven, SameGiven, reads_given, placed_given}
use Rattle.np_syntax.proofs.Sections.{effect_word, precondition_word, parameters_word, action_word, functions_word, predicates_word, constants_word, types_word, requirements_word, reads_parameters, placed_parameters, reads_by_place, placed_by_place, expect_avoids, Parts, action_of, functions_of, predicates_of, constants_of, types_of, requirements_of, effect_nothing, effect_avoids, precondition_nothing, precondition_avoids, action_nothing, action_avoids, functions_nothing, functions_avoids, predicates_nothing, predicates_avoids, constants_nothing, constants_avoids, types_nothing, types_avoids, section_avoids, starting_section}

-- ---- which sections are read

module _ (IsC : Condition → Type 0) (IsE : Effect → Type 0) where
  abbrev GoodParts : Parts → Type 0
  GoodParts = GoodGiven (AreGroups Variables) (GoodGiven IsC (GoodGiven IsE IsAny))

  abbrev GoodAction : Place × (Word × Parts) → Type 0
  GoodAction = GoodPair IsAnyPlace (GoodPair IsName GoodParts)

  abbrev FromAction : DomainSection → Type 0
  FromAction = Made action_of GoodAction

  abbrev FromFunctions : DomainSection → Type 0
  FromFunctions v = MadeOf functions_of IsAnyPlace (All IsFunction) v ⊎ FromAction v

  abbrev FromPredicates : DomainSection → Type 0
  FromPredicates v = MadeOf predicates_of IsAnyPlace (All IsDeclared) v ⊎ FromFunctions v

  abbrev FromConstants : DomainSection → Type 0
  FromConstants v = MadeOf constants_of IsAnyPlace (AreGroups Names) v ⊎ FromPredicates v

  abbrev FromTypes : DomainSection → Type 0
  FromTypes v = MadeOf types_of IsAnyPlace (AreGroups Names) v ⊎ FromConstants v

  abbrev FromRequirements : DomainSection → Type 0
  FromRequirements v = MadeOf requirements_of IsAnyPlace (All IsWord) v ⊎ FromTypes v

  abbrev IsSec : DomainSection → Type 0
  IsSec = IsSection IsC IsE

  to_section : (v : DomainSection) → FromRequirements v → IsSec v
  to_section v (inl h) = subst IsSec h.2 h.4
  to_section v (inr (inl h)) = subst IsSec h.2 h.4
  to_section v (inr (inr (inl h))) = subst IsSec h.2 h.4
  to_section v (inr (inr (inr (inl h)))) = subst IsSec h.2 h.4
  to_section v (inr (inr (inr (inr (inl h))))) = subst IsSec h.2 h.4
  to_section v (inr (inr (inr (inr (inr h))))) = subst IsSec h.1 (h.2.1.0, (h.2.1.1.0, (h.2.1.1.1.0, h.2.1.1.1.1.0)))

  from_section : (v : DomainSection) → IsSec v → FromRequirements v
  from_section (s.Requirements place words) h = inl (place, words, refl, tt, h)
  from_section (s.Types place gs) h = inr (inl (place, gs, refl, tt, h))
  from_section (s.Constants place gs) h = inr (inr (inl (place, gs, refl, tt, h)))
  from_section (s.Predicates place ds) h = inr (inr (inr (inl (place, ds, refl, tt, h))))
  from_section (s.Functions place fs) h = inr (inr (inr (inr (inl (place, fs, refl, tt, h)))))
  from_section (s.Action place w gs c e) h = inr (inr (inr (inr (inr ((place, (w, (gs, (c, (e, tt))))), refl, (tt, (h.0, (h.1.0, (h.1.1.0, (h.1.1.1, tt))))))))))

  abbrev domain_of : Word × List DomainSection → Domain
  domain_of x = record { name = x.0; sections = x.1 }

  abbrev GoodDomain : Word × List DomainSection → Type 0
  GoodDomain = GoodPair IsName (All IsSec)

  to_domain : (d : Domain) → Made domain_of GoodDomain d → IsDomainWith IsC IsE d
  to_domain d h = subst (IsDomainWith IsC IsE) h.1 h.2

  from_domain : (d : Domain) → IsDomainWith IsC IsE d → Made domain_of GoodDomain d
  from_domain d h = ((d.name, d.sections), refl, h)

-- ---- read as they are spelled

module _ (c : Reader Condition) (e : Reader Effect) (IsC : Condition → Type 0) (IsE : Effect → Type 0) where
  module _ (good_c : (k : ℕ) → Good k c) (good_e : (k : ℕ) → Good k e) (bare_c : Condition → Condition) (bare_e : Effect → Effect) (print_c : Condition → Printed) (print_e : Effect → Printed)
      (reads_c : Reads IsC print_c (λ a b. bare_c a ≡ bare_c b) c) (reads_e : Reads IsE print_e (λ a b. bare_e a ≡ bare_e b) e) where
    abbrev pub SameSection : DomainSection → DomainSection → Type 0
    SameSection a b = bare_section bare_c bare_e a ≡ bare_section bare_c bare_e b

    abbrev print_inside : DomainSection → Printed
    print_inside = section_inside spelled print_c print_e

    reads_effect : Reads (GoodGiven IsE IsAny) (print_both effect_word print_e (only right)) (SameGiven bare_e SameUnit) (from_effect c e)
    unfolding from_effect
    reads_effect = reads_given effect_word bare_e reads_e (reads_expect right) (expect_nothing right) (expect_avoids effect_word right refl)

    reads_precondition : Reads (GoodGiven IsC (GoodGiven IsE IsAny)) (print_both precondition_word print_c (print_both effect_word print_e (only right))) (SameGiven bare_c (SameGiven bare_e SameUnit)) (from_precondition c e)
    unfolding from_precondition
    reads_precondition = reads_given precondition_word bare_c reads_c reads_effect (effect_nothing c e) (effect_avoids c e precondition_word refl refl)

    abbrev print_parts : Parts → Printed
    print_parts = print_both parameters_word (section_text.parameters spelled) (print_both precondition_word print_c (print_both effect_word print_e (only right)))

    abbrev SameParts : Parts → Parts → Type 0
    SameParts = SameGiven bare_groups (SameGiven bare_c (SameGiven bare_e SameUnit))

    reads_parts : Reads (GoodParts IsC IsE) print_parts SameParts (from_parameters c e)
    unfolding from_parameters
    reads_parts = reads_given parameters_word bare_groups reads_parameters reads_precondition (precondition_nothing c e) (precondition_avoids c e parameters_word refl refl refl)

    same_action : (x y : Place × (Word × Parts)) → SamePair SamePlace (SamePair SameWord SameParts) x y → SameSection (action_of x) (action_of y)
    same_action x y h = λ i. s.Action nowhere (h.1.0 i) (h.1.1.0 i) (h.1.1.1.0 i) (h.1.1.1.1.0 i)

    reads_action : Reads (FromAction IsC IsE) print_inside SameSection (from_action c e)
    unfolding from_action
    reads_action = reads_made action_of print_inside SameSection (λ x ls. refl) same_action (reads_both (reads_placed action_word) (reads_both reads_name reads_parts))

    reads_from_functions : Reads (FromFunctions IsC IsE) print_inside SameSection (from_functions c e)
    unfolding from_functions
    reads_from_functions =
        reads_by_place functions_word functions_of functions (from_action c e) (λ place fs ls. refl) (λ p q fs gs h. ap (λ (more : List (Declared × Bool)). s.Functions nowhere more) h) reads_functions reads_action
        (action_nothing c e) (action_avoids c e functions_word refl)

    reads_from_predicates : Reads (FromPredicates IsC IsE) print_inside SameSection (from_predicates c e)
    unfolding from_predicates
    reads_from_predicates =
        reads_by_place predicates_word predicates_of (row declared) (from_functions c e) (λ place ds ls. refl) (λ p q ds es h. ap (λ (more : List Declared). s.Predicates nowhere more) h)
        (reads_each_row bare_declared starting_declared reads_declared (declared_avoids right refl)) reads_from_functions (functions_nothing c e) (functions_avoids c e predicates_word refl refl)

    reads_from_constants : Reads (FromConstants IsC IsE) print_inside SameSection (from_constants c e)
    unfolding from_constants
    reads_from_constants =
        reads_by_place constants_word constants_of (typed_list Names) (from_predicates c e) (λ place gs ls. refl) (λ p q gs hs h. ap (λ (more : List Group). s.Constants nowhere more) h) (reads_typed_list Names)
        reads_from_predicates (predicates_nothing c e) (predicates_avoids c e constants_word refl refl refl)

    reads_from_types : Reads (FromTypes IsC IsE) print_inside SameSection (from_types c e)
    unfolding from_types
    reads_from_types =
        reads_by_place types_word types_of (typed_list Names) (from_constants c e) (λ place gs ls. refl) (λ p q gs hs h. ap (λ (more : List Group). s.Types nowhere more) h) (reads_typed_list Names)
        reads_from_constants (constants_nothing c e) (constants_avoids c e types_word refl refl refl refl)

    reads_from_requirements : Reads (FromRequirements IsC IsE) print_inside SameSection (from_requirements c e)
    unfolding from_requirements
    reads_from_requirements =
        reads_by_place requirements_word requirements_of (row requirement) (from_types c e) (λ place words ls. refl) (λ p q ws vs h. ap (λ (more : List Word). s.Requirements nowhere more) h)
        (reads_each_row bare_word starting_requirement reads_requirement (requirement_avoids right (λ place. refl))) reads_from_types (types_nothing c e) (types_avoids c e requirements_word refl refl refl refl refl)

    pub reads_section : Reads (IsSec IsC IsE) (section_text.section spelled print_c print_e) SameSection (section c e)
    unfolding section
    reads_section = reads_same (IsSec IsC IsE) (to_section IsC IsE) (from_section IsC IsE) (reads_after (reads_expect left) reads_from_requirements)

    abbrev pub SameDomain : Domain → Domain → Type 0
    SameDomain a b = bare_domain_with bare_c bare_e a ≡ bare_domain_with bare_c bare_e b

    -- a domain after its first brackets
    abbrev print_rest : Domain → Printed
    print_rest d rest = text.name spelled d.name (right ∷ each (section_text.section spelled print_c print_e) d.sections (right ∷ rest))

    pub reads_domain_with : Reads (IsDomainWith IsC IsE) (section_text.domain_with spelled print_c print_e) SameDomain (domain_with c e)
    unfolding domain_with
    reads_domain_with =
        reads_same (IsDomainWith IsC IsE) (to_domain IsC IsE) (from_domain IsC IsE)
        (reads_after (reads_open (named (codes "define"))) (reads_after (reads_open (named (codes "domain")))
        (reads_made (domain_of IsC IsE) print_rest SameDomain (λ x ls. refl) (λ x y h i. record { name = h.0 i; sections = h.1 i })
        (reads_both (reads_before reads_name (reads_expect right)) (reads_each_row (bare_section bare_c bare_e) (starting_section c e good_c good_e) reads_section (section_avoids c e right refl))))))

  -- ---- at their places

  module _ (marks_c : Condition → Marking) (marks_e : Effect → Marking) (placed_c : Placed IsC marks_c c) (placed_e : Placed IsE marks_e e) where
    abbrev marks_inside : DomainSection → Marking
    marks_inside = section_inside marked marks_c marks_e

    placed_effect : Placed (GoodGiven IsE IsAny) (print_both (plain effect_word) marks_e (only_mark right)) (from_effect c e)
    unfolding from_effect
    placed_effect = placed_given effect_word placed_e (placed_expect right)

    placed_precondition : Placed (GoodGiven IsC (GoodGiven IsE IsAny)) (print_both (plain precondition_word) marks_c (print_both (plain effect_word) marks_e (only_mark right))) (from_precondition c e)
    unfolding from_precondition
    placed_precondition = placed_given precondition_word placed_c placed_effect

    placed_parts : Placed (GoodParts IsC IsE) (print_both (plain parameters_word) (section_text.parameters marked) (print_both (plain precondition_word) marks_c (print_both (plain effect_word) marks_e (only_mark right)))) (from_parameters c e)
    unfolding from_parameters
    placed_parts = placed_given parameters_word placed_parameters placed_precondition

    placed_action : Placed (FromAction IsC IsE) marks_inside (from_action c e)
    unfolding from_action
    placed_action = placed_made action_of marks_inside (λ x ms. refl) (placed_both (placed_placed action_word) (placed_both placed_name placed_parts))

    placed_from_functions : Placed (FromFunctions IsC IsE) marks_inside (from_functions c e)
    unfolding from_functions
    placed_from_functions = placed_by_place functions_word functions_of functions (from_action c e) (λ place fs ms. refl) placed_functions placed_action

    placed_from_predicates : Placed (FromPredicates IsC IsE) marks_inside (from_predicates c e)
    unfolding from_predicates
    placed_from_predicates = placed_by_place predicates_word predicates_of (row declared) (from_functions c e) (λ place ds ms. refl) (placed_row placed_declared) placed_from_functions

    placed_from_constants : Placed (FromConstants IsC IsE) marks_inside (from_constants c e)
    unfolding from_constants
    placed_from_constants = placed_by_place constants_word constants_of (typed_list Names) (from_predicates c e) (λ place gs ms. refl) (placed_typed_list Names) placed_from_predicates

    placed_from_types : Placed (FromTypes IsC IsE) marks_inside (from_types c e)
    unfolding from_types
    placed_from_types = placed_by_place types_word types_of (typed_list Names) (from_constants c e) (λ place gs ms. refl) (placed_typed_list Names) placed_from_constants

    placed_from_requirements : Placed (FromRequirements IsC IsE) marks_inside (from_requirements c e)
    unfolding from_requirements
    placed_from_requirements = placed_by_place requirements_word requirements_of (row requirement) (from_types c e) (λ place words ms. refl) (placed_row placed_requirement) placed_from_types

    pub placed_section : Placed (IsSec IsC IsE) (section_text.section marked marks_c marks_e) (section c e)
    unfolding section
    placed_section = placed_same (IsSec IsC IsE) (to_section IsC IsE) (placed_after (placed_expect left) placed_from_requirements)

    abbrev marks_rest : Domain → Marking
    marks_rest d rest = text.name marked d.name (plain right ∷ each (section_text.section marked marks_c marks_e) d.sections (plain right ∷ rest))

    pub placed_domain_with : Placed (IsDomainWith IsC IsE) (section_text.domain_with marked marks_c marks_e) (domain_with c e)
    unfolding domain_with
    placed_domain_with =
        placed_same (IsDomainWith IsC IsE) (to_domain IsC IsE)
        (placed_after (placed_open (named (codes "define"))) (placed_after (placed_open (named (codes "domain")))
        (placed_made (domain_of IsC IsE) marks_rest (λ x ms. refl) (placed_both (placed_before placed_name (placed_expect right)) (placed_row placed_section)))))
