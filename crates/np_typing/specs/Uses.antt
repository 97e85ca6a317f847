-- The faults of what a text uses, in the order of the text: at a symbol, and then at its arguments.
use Rattle.std.specs.Prelude.{ℕ, Bool, true, false, not, ◌&&◌, ◌||◌, ◌==◌, List, [], ◌∷◌, ◌++◌, length, slice_get, Option, None, Some, if◌then◌else◌}
use Rattle.std.specs.List.{flat_map}
use Rattle.np_lex.specs.declared.token.Place.{Place}
use Rattle.np_model.specs.declared.task.Signature.{Signature}
use Rattle.np_model.specs.Types.{fits}
use Rattle.np_words.specs.declared.word.Word.{Word}
use Rattle.np_words.specs.declared.word.Ident.{Ident}
use Rattle.np_words.specs.declared.word.Ident.TheVariants as ident
use Rattle.np_words.specs.declared.expr.Expr.{Expr, out-Expr}
use Rattle.np_words.specs.declared.expr.Expr.TheFolds.{fold-Expr}
use Rattle.np_words.specs.declared.expr.Expr.TheOpen.{Expr-F}
use Rattle.np_conditions.specs.declared.condition.Side.{Side}
use Rattle.np_conditions.specs.declared.condition.Side.TheVariants as side
use Rattle.np_conditions.specs.declared.condition.Condition.{Condition}
use Rattle.np_conditions.specs.declared.condition.Condition.TheFolds.{fold-Condition}
use Rattle.np_conditions.specs.declared.condition.Condition.TheOpen.{Condition-F}
use Rattle.np_conditions.specs.declared.effect.Effect.{Effect}
use Rattle.np_conditions.specs.declared.effect.Effect.TheFolds.{fold-Effect}
use Rattle.np_conditions.specs.declared.effect.Effect.TheOpen.{Effect-F}
use Rattle.np_names.specs.declared.fault.TypeFault.{TypeFault}
use Rattle.np_names.specs.declared.fault.TypeFault.TheVariants.{At}
use Rattle.np_names.specs.declared.fault.TypeWhy.{TypeWhy}
use Rattle.np_names.specs.declared.fault.TypeWhy.TheVariants.{UnknownPredicate, UnknownFunction, UnknownName, Unbound, WrongArity, WrongType, AmountNotStatic}
use Rattle.np_names.specs.Names.{is_among, number_of}
use Rattle.np_typing.specs.Scopes.{Scope, is_known, ref_of, type_of_ref}
use Rattle.np_declared.specs.Symbols.{object_names, symbol_names}

-- a word alone, where a name may stand: a function without arguments, or an object
abbrev pub bare_word_of : Expr-F Expr → Option Word
bare_word_of (Expr-F.Bare w) = Some w
bare_word_of _ = None

module _ (scope : Scope) where
  abbrev pub fault_at : TypeWhy → Place → List TypeFault
  fault_at why place = At scope.source place why ∷ []

  -- ---- objects and variables

  -- what isn't declared
  abbrev pub unknown : Ident → List TypeFault
  unknown (ident.Name w) = fault_at UnknownName w.place
  unknown (ident.Variable w) = fault_at Unbound w.place

  abbrev pub wrong_type : Ident → List TypeFault
  wrong_type (ident.Name w) = fault_at WrongType w.place
  wrong_type (ident.Variable w) = fault_at WrongType w.place

  abbrev pub object_faults : Ident → List TypeFault
  object_faults i = if is_known scope i then [] else unknown i

  -- an argument for a parameter of this type
  abbrev pub argument_faults : ℕ → Ident → List TypeFault
  argument_faults wanted i =
      if is_known scope i then (if fits scope.types wanted (type_of_ref scope (ref_of scope i)) then [] else wrong_type i) else unknown i

  abbrev pub arguments_faults : List ℕ → List Ident → List TypeFault
  arguments_faults [] idents = []
  arguments_faults (wanted ∷ rest) [] = []
  arguments_faults (wanted ∷ rest) (i ∷ idents) = argument_faults wanted i ++ arguments_faults rest idents

  -- ---- predicates and functions with arguments

  -- a declared symbol with arguments. In an amount of an effect it has to be static
  abbrev pub declared_faults : Bool → Signature → Word → List Ident → List TypeFault
  declared_faults in_amount s w idents =
      if length s.parameters == length idents
      then (if in_amount && not s.fixed then fault_at AmountNotStatic w.place else []) ++ arguments_faults s.parameters idents
      else fault_at WrongArity w.place

  -- a symbol that is this one of those declared, if any
  abbrev pub found_faults : TypeWhy → Bool → Option Signature → Word → List Ident → List TypeFault
  found_faults why in_amount None w idents = fault_at why w.place
  found_faults why in_amount (Some s) w idents = declared_faults in_amount s w idents

  abbrev pub predicate_faults : Word → List Ident → List TypeFault
  predicate_faults w idents =
      found_faults UnknownPredicate false (slice_get scope.predicates (number_of (symbol_names scope.predicates) w.text)) w idents

  abbrev pub function_faults : Bool → Word → List Ident → List TypeFault
  function_faults in_amount w idents =
      found_faults UnknownFunction in_amount (slice_get scope.functions (number_of (symbol_names scope.functions) w.text)) w idents

  -- ---- expressions

  abbrev pub expr_faults_from : Bool → Expr-F (List TypeFault) → List TypeFault
  expr_faults_from in_amount (Expr-F.Number number) = []
  expr_faults_from in_amount (Expr-F.Bare w) = function_faults in_amount w []
  expr_faults_from in_amount (Expr-F.Call w idents) = function_faults in_amount w idents
  expr_faults_from in_amount (Expr-F.Minus x) = x
  expr_faults_from in_amount (Expr-F.Sub x y) = x ++ y
  expr_faults_from in_amount (Expr-F.Div x y) = x ++ y
  expr_faults_from in_amount (Expr-F.Add parts) = flat_map (λ part. part) parts
  expr_faults_from in_amount (Expr-F.Mul parts) = flat_map (λ part. part) parts

  abbrev pub expr_faults : Bool → Expr → List TypeFault
  expr_faults in_amount = fold-Expr (List TypeFault) (expr_faults_from in_amount)

  -- ---- equalities

  -- whether a word alone is an object
  abbrev pub is_object_word : Option Word → Bool
  is_object_word None = false
  is_object_word (Some w) = is_among w.text (object_names scope.objects)

  -- whether a side says that objects are compared: a variable, or a word alone that is an object
  abbrev pub says_object : Side → Bool
  says_object (side.Variable w) = true
  says_object (side.Expr v place) = is_object_word (bare_word_of (out-Expr v))

  -- an equality of objects, else of numbers
  abbrev pub is_of_objects : Side → Side → Bool
  is_of_objects l r = says_object l || says_object r

  -- a side of an equality of objects, which is no variable: a word alone that is an object, at this place
  abbrev pub word_side_faults : Place → Option Word → List TypeFault
  word_side_faults place None = fault_at WrongType place
  word_side_faults place (Some w) = object_faults (ident.Name w)

  abbrev pub object_side_faults : Side → List TypeFault
  object_side_faults (side.Variable w) = object_faults (ident.Variable w)
  object_side_faults (side.Expr v place) = word_side_faults place (bare_word_of (out-Expr v))

  -- a side of an equality of numbers, which is no variable
  abbrev pub number_side_faults : Side → List TypeFault
  number_side_faults (side.Variable w) = []
  number_side_faults (side.Expr v place) = expr_faults false v

  abbrev pub equality_faults : Side → Side → List TypeFault
  equality_faults l r =
      if is_of_objects l r then object_side_faults l ++ object_side_faults r else number_side_faults l ++ number_side_faults r

  -- ---- conditions

  abbrev pub condition_faults_from : Condition-F (List TypeFault) → List TypeFault
  condition_faults_from Condition-F.Nothing = []
  condition_faults_from (Condition-F.And parts) = flat_map (λ part. part) parts
  condition_faults_from (Condition-F.Atom w idents) = predicate_faults w idents
  condition_faults_from (Condition-F.NotAtom w idents) = predicate_faults w idents
  condition_faults_from (Condition-F.Compare op a b) = expr_faults false a ++ expr_faults false b
  condition_faults_from (Condition-F.NotCompare op a b) = expr_faults false a ++ expr_faults false b
  condition_faults_from (Condition-F.Equal l r) = equality_faults l r
  condition_faults_from (Condition-F.NotSame i j) = object_faults i ++ object_faults j

  abbrev pub condition_faults : Condition → List TypeFault
  condition_faults = fold-Condition (List TypeFault) condition_faults_from

  -- ---- effects: the amount of a change reads static functions alone

  abbrev pub change_faults : Word → List Ident → Expr → List TypeFault
  change_faults w idents amount = function_faults false w idents ++ expr_faults true amount

  abbrev pub effect_faults_from : Effect-F (List TypeFault) → List TypeFault
  effect_faults_from Effect-F.Nothing = []
  effect_faults_from (Effect-F.And parts) = flat_map (λ part. part) parts
  effect_faults_from (Effect-F.Add w idents) = predicate_faults w idents
  effect_faults_from (Effect-F.Delete w idents) = predicate_faults w idents
  effect_faults_from (Effect-F.Increase w idents alone amount) = change_faults w idents amount
  effect_faults_from (Effect-F.Decrease w idents alone amount) = change_faults w idents amount

  abbrev pub effect_faults : Effect → List TypeFault
  effect_faults = fold-Effect (List TypeFault) effect_faults_from
