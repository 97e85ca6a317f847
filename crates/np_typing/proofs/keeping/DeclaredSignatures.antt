-- The parameters of predicates, functions and actions have declared types, and are few.
use Rattle.std.proofs.Common.{◌≡◌, ℕ, ◌<◌, ◌≤◌, ◌^◌, sym, arith, subst, List, [], map, get_or, Option}
use Rattle.std.specs.Prelude.{All}
use Rattle.std.specs.List.{flat_map}
use Rattle.std.proofs.lemmas.List.Elements.{All-nil, All-map, All-weaker}
use Rattle.np_lex.specs.declared.token.Place.{Place}
use Rattle.np_model.specs.Tasks.{IsSignature, AreTypes}
use Rattle.np_words.specs.declared.word.Word.{Word}
use Rattle.np_words.specs.declared.word.Group.{Group}
use Rattle.np_conditions.specs.declared.condition.Condition.{Condition}
use Rattle.np_conditions.specs.declared.effect.Effect.{Effect}
use Rattle.np_syntax.specs.declared.domain.Declared.{Declared}
use Rattle.np_syntax.specs.declared.domain.Domain.{Domain}
use Rattle.np_syntax.specs.declared.domain.DomainSection.{DomainSection}
use Rattle.np_syntax.specs.declared.domain.DomainSection.TheVariants as d
use Rattle.np_problem.specs.declared.problem.Problem.{Problem}
use Rattle.np_names.specs.declared.fault.Source.TheVariants.{Domain as InDomain}
use Rattle.np_names.specs.Names.{texts, given}
use Rattle.np_declared.specs.Types.{type_names, numbers_in}
use Rattle.np_names.specs.Declarations.{declared_predicates as predicates_in, declared_functions as functions_in, all_types, all_predicates, all_functions}
use Rattle.np_declared.specs.TypeRules.{unknown_in, section_unknown}
use Rattle.np_declared.specs.Symbols.{signature, all_touched, all_changed}
use Rattle.np_typing.specs.TaskOf.{action_of, scope_of, task_of}
use Rattle.np_typing.specs.Typing.{IsSpelledPair}
use Rattle.np_typing.proofs.keeping.DeclaredParts.{BreaksNoRule}
use Rattle.np_typing.proofs.keeping.DeclaredLists.{all_flat_map}
use Rattle.np_typing.proofs.keeping.DeclaredTypes.{types_names, types_length}
use Rattle.np_typing.proofs.keeping.DeclaredKnown.{flat_map_none, numbers_below, some_types, sections_types_known, predicates_known, functions_known}
use Rattle.np_typing.proofs.keeping.DeclaredSizes.{total, each_within}
use Rattle.np_typing.proofs.keeping.DeclaredLengths.{numbers_length, declared_size, section_size, sections_short}

abbrev IsFew : Declared → Type 0
IsFew x = declared_size x < 2 ^ 31

predicates_step : (s : DomainSection) → section_size s < 2 ^ 31 → All IsFew (predicates_in s)
predicates_step (d.Predicates place ds) h = All-weaker (λ x. declared_size x ≤ total declared_size ds) IsFew (λ x k. omega arith) ds (each_within declared_size ds)
predicates_step _ h = All-nil IsFew

functions_step : (s : DomainSection) → section_size s < 2 ^ 31 → All IsFew (functions_in s)
functions_step (d.Functions place fs) h =
    All-map IsFew (λ f. f.0) fs (All-weaker (λ f. declared_size f.0 ≤ total (λ g. declared_size g.0) fs) (λ f. IsFew f.0) (λ f k. omega arith) fs (each_within (λ f. declared_size f.0) fs))
functions_step _ h = All-nil IsFew

few_in : (domain : Domain) (f : DomainSection → List Declared) → ((s : DomainSection) → section_size s < 2 ^ 31 → All IsFew (f s)) → All (λ s. section_size s < 2 ^ 31) domain.sections
    → All IsFew (flat_map f domain.sections)
few_in domain f step h = all_flat_map IsFew f domain.sections (All-weaker (λ s. section_size s < 2 ^ 31) (λ s. All IsFew (f s)) step domain.sections h)

module _ (domain : Domain) (problem : Problem) where
  -- parameters of known types are types of the task
  pub known_typed : (gs : List Group) → unknown_in (type_names (all_types domain)) gs ≡ [] → AreTypes (task_of domain problem) (numbers_in (type_names (all_types domain)) gs)
  known_typed gs e =
      subst (λ n. All (λ of. of < n) (numbers_in (type_names (all_types domain)) gs)) (sym (types_length (all_types domain)))
      (numbers_below (type_names (all_types domain)) (some_types (all_types domain)) gs e)

  signature_kept : (named : List (List ℕ)) (x : Declared) → IsFew x → unknown_in (type_names (all_types domain)) x.parameters ≡ [] → IsSignature (task_of domain problem) (signature (type_names (all_types domain)) named x)
  signature_kept named x few e = record {
    short = let same = numbers_length (type_names (all_types domain)) x.parameters in omega arith;
    typed = known_typed x.parameters e;
  }

  signatures_kept : (named : List (List ℕ)) (xs : List Declared) → All IsFew xs → All (λ x. unknown_in (type_names (all_types domain)) x.parameters ≡ []) xs
      → All (IsSignature (task_of domain problem)) (map (signature (type_names (all_types domain)) named) xs)
  signatures_kept named xs few known =
      All-map (IsSignature (task_of domain problem)) (signature (type_names (all_types domain)) named) xs (λ k x h. signature_kept named (get_or xs k x) (few k x h) (known k x h))

  pub declared_predicates : IsSpelledPair domain problem → BreaksNoRule domain problem → All (IsSignature (task_of domain problem)) (task_of domain problem).predicates
  declared_predicates spelled h =
      signatures_kept (texts (all_touched domain)) (all_predicates domain)
      (few_in domain predicates_in predicates_step (sections_short domain problem spelled)) (predicates_known domain problem h)

  pub declared_functions : IsSpelledPair domain problem → BreaksNoRule domain problem → All (IsSignature (task_of domain problem)) (task_of domain problem).functions
  declared_functions spelled h =
      signatures_kept (texts (all_changed domain)) (all_functions domain)
      (few_in domain functions_in functions_step (sections_short domain problem spelled)) (functions_known domain problem h)

  -- the parameters of an action have types of the task
  pub parameters_typed : (place : Place) (w : Word) (gs : Option (List Group)) (c : Option Condition) (e : Option Effect)
      → section_unknown (type_names (all_types domain)) (d.Action place w gs c e) ≡ [] → AreTypes (task_of domain problem) (action_of (scope_of InDomain domain problem) w gs c e).parameters
  parameters_typed place w gs c e none =
      subst (λ names. AreTypes (task_of domain problem) (numbers_in names (given gs))) (sym (types_names (all_types domain))) (known_typed (given gs) none)

-- each section has known types alone
pub sections_known : (domain : Domain) (problem : Problem) → BreaksNoRule domain problem → All (λ s. section_unknown (type_names (all_types domain)) s ≡ []) domain.sections
sections_known domain problem h = flat_map_none (section_unknown (type_names (all_types domain))) domain.sections (sections_types_known domain problem h)
