-- A use without faults fits what is declared.
use Rattle.std.proofs.Common.{◌≡◌, ℕ, Bool, true, false, List, [], ◌∷◌, map, length, slice_get, is_some, Option, None, Some, refl, ap, ◌∙◌, arith}
use Rattle.std.specs.Option.{option_map_or}
use Rattle.std.proofs.lemmas.List.{length-map}
use Rattle.std.proofs.lemmas.Bool.{and_from, eqb-true}
use Rattle.np_model.specs.declared.task.Object.{Object}
use Rattle.np_model.specs.declared.task.Signature.{Signature}
use Rattle.np_model.specs.declared.task.Ref.{Ref}
use Rattle.np_model.specs.declared.task.Ref.TheVariants as ref
use Rattle.np_model.specs.declared.task.TaskParts.{TaskParts}
use Rattle.np_model.specs.Tasks.{is_call, is_use, is_fixed}
use Rattle.np_model.specs.Tasks as tasks
use Rattle.np_model.specs.Types.{type_of, fits, all_fit}
use Rattle.np_words.specs.declared.word.Word.{Word}
use Rattle.np_words.specs.declared.word.Ident.{Ident}
use Rattle.np_words.specs.declared.word.Ident.TheVariants as ident
use Rattle.np_names.specs.declared.fault.TypeWhy.{TypeWhy}
use Rattle.np_names.specs.Names.{number_of}
use Rattle.np_typing.specs.Scopes.{Scope, is_known, ref_of}
use Rattle.np_declared.specs.Symbols.{object_names}
use Rattle.np_typing.specs.Scopes as scopes
use Rattle.np_typing.specs.Uses.{object_faults, argument_faults, arguments_faults, declared_faults, found_faults, predicate_faults, function_faults}
use Rattle.np_typing.specs.Resolved.{predicate_number, function_number, refs_of}
use Rattle.np_typing.proofs.keeping.DeclaredNumbers.{number_below}
use Rattle.np_typing.proofs.keeping.UsedLists.{not_none, both_none, then_none, unless_both, some_within, is_some_map}

-- the scope has the lists of the task, and the parameters with their types
pub record Agrees (scope : Scope) (task : TaskParts) (parameters : List ℕ) : Type 0 where
  pub types : task.types ≡ scope.types
  pub objects : task.objects ≡ scope.objects
  pub predicates : task.predicates ≡ scope.predicates
  pub functions : task.functions ≡ scope.functions
  pub given : parameters ≡ scope.variable_types
  pub as_many : length scope.variables ≡ length scope.variable_types

module _ (scope : Scope) (task : TaskParts) (parameters : List ℕ) (agrees : Agrees scope task parameters) where
  same_type : (r : Ref) → tasks.type_of_ref task parameters r ≡ scopes.type_of_ref scope r
  same_type (ref.Object n) = ap (λ objects. type_of objects n) agrees.objects
  same_type (ref.Parameter i) = ap (λ given. slice_get given i) agrees.given

  -- ---- arguments

  in_scope : (wanted : ℕ) (i : Ident) → argument_faults scope wanted i ≡ [] → fits scope.types wanted (scopes.type_of_ref scope (ref_of scope i)) ≡ true
  in_scope wanted (ident.Name w) h = (then_none _ _ _ _ (then_none _ _ _ _ h).1).0
  in_scope wanted (ident.Variable w) h = (then_none _ _ _ _ (then_none _ _ _ _ h).1).0

  argument_fits : (wanted : ℕ) (i : Ident) → argument_faults scope wanted i ≡ [] → fits task.types wanted (tasks.type_of_ref task parameters (ref_of scope i)) ≡ true
  argument_fits wanted i h =
      ap (λ types. fits types wanted (tasks.type_of_ref task parameters (ref_of scope i))) agrees.types
      ∙ ap (fits scope.types wanted) (same_type (ref_of scope i)) ∙ in_scope wanted i h

  arguments_fit : (wanted : List ℕ) (idents : List Ident) → length wanted ≡ length idents → arguments_faults scope wanted idents ≡ []
      → all_fit task.types wanted (map (tasks.type_of_ref task parameters) (refs_of scope idents)) ≡ true
  arguments_fit [] [] e h = refl
  arguments_fit [] (i ∷ idents) e h = absurd (omega (arith, e))
  arguments_fit (n ∷ wanted) [] e h = absurd (omega (arith, e))
  arguments_fit (n ∷ wanted) (i ∷ idents) e h =
      let p = both_none (argument_faults scope n i) (arguments_faults scope wanted idents) h in
      and_from _ _ (argument_fits n i p.0) (arguments_fit wanted idents (omega (arith, e)) p.1)

  -- ---- symbols

  declared_fits : (in_amount : Bool) (s : Signature) (w : Word) (idents : List Ident) → declared_faults scope in_amount s w idents ≡ []
      → (all_fit task.types s.parameters (map (tasks.type_of_ref task parameters) (refs_of scope idents)) ≡ true) × (in_amount ≡ true → s.fixed ≡ true)
  declared_fits in_amount s w idents h =
      let p = then_none _ _ _ _ h in
      let q = both_none _ (arguments_faults scope s.parameters idents) p.1 in
      (arguments_fit s.parameters idents (eqb-true _ _ p.0) q.1, unless_both in_amount s.fixed _ _ q.0)

  found_fits : (why : TypeWhy) (in_amount : Bool) (found : Option Signature) (w : Word) (idents : List Ident) → found_faults scope why in_amount found w idents ≡ []
      → (option_map_or (λ (s : Signature). all_fit task.types s.parameters (map (tasks.type_of_ref task parameters) (refs_of scope idents))) found false ≡ true)
      × (in_amount ≡ true → option_map_or (λ (s : Signature). s.fixed) found false ≡ true)
  found_fits why in_amount None w idents h = absurd (not_none _ _ h)
  found_fits why in_amount (Some s) w idents h = declared_fits in_amount s w idents h

  pub predicate_fits : (w : Word) (idents : List Ident) → predicate_faults scope w idents ≡ []
      → is_use task task.predicates parameters (predicate_number scope w) (refs_of scope idents) ≡ true
  predicate_fits w idents h =
      ap (λ signatures. is_use task signatures parameters (predicate_number scope w) (refs_of scope idents)) agrees.predicates
      ∙ (found_fits _ false (slice_get scope.predicates (predicate_number scope w)) w idents h).0

  pub function_fits : (in_amount : Bool) (w : Word) (idents : List Ident) → function_faults scope in_amount w idents ≡ []
      → is_use task task.functions parameters (function_number scope w) (refs_of scope idents) ≡ true
  function_fits in_amount w idents h =
      ap (λ signatures. is_use task signatures parameters (function_number scope w) (refs_of scope idents)) agrees.functions
      ∙ (found_fits _ in_amount (slice_get scope.functions (function_number scope w)) w idents h).0

  pub function_is_fixed : (in_amount : Bool) (w : Word) (idents : List Ident) → function_faults scope in_amount w idents ≡ []
      → in_amount ≡ true → is_fixed task.functions (function_number scope w) ≡ true
  function_is_fixed in_amount w idents h is =
      ap (λ signatures. is_fixed signatures (function_number scope w)) agrees.functions
      ∙ (found_fits _ in_amount (slice_get scope.functions (function_number scope w)) w idents h).1 is

  -- ---- objects and variables

  has_type : (i : Ident) → is_known scope i ≡ true → is_some (scopes.type_of_ref scope (ref_of scope i)) ≡ true
  has_type (ident.Name w) h =
      is_some_map (λ (o : Object). o.of) (slice_get scope.objects (number_of (object_names scope.objects) w.text))
      ∙ some_within scope.objects _ (let less = number_below (object_names scope.objects) w.text h in omega (arith, less, length-map scope.objects (λ (o : Object). o.name)))
  has_type (ident.Variable w) h =
      some_within scope.variable_types _ (let less = number_below scope.variables w.text h in omega (arith, less, agrees.as_many))

  is_declared : (i : Ident) → object_faults scope i ≡ [] → is_known scope i ≡ true
  is_declared (ident.Name w) h = (then_none _ _ _ _ h).0
  is_declared (ident.Variable w) h = (then_none _ _ _ _ h).0

  pub object_known : (i : Ident) → object_faults scope i ≡ [] → is_some (tasks.type_of_ref task parameters (ref_of scope i)) ≡ true
  object_known i h = ap is_some (same_type (ref_of scope i)) ∙ has_type i (is_declared i h)
