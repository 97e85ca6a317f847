-- What expressions, conditions and effects stand for where they have no fault: each name is replaced by its number.
-- (Of what has a fault they give something too, which nobody reads.)
use Rattle.std.specs.Prelude.{ℕ, true, false, List, [], ◌∷◌, map, Option, None, Some, if◌then◌else◌}
use Rattle.std.specs.List.{flat_map}
use Rattle.np_model.specs.declared.task.Ref.{Ref}
use Rattle.np_model.specs.declared.task.Ref.TheVariants as ref
use Rattle.np_model.specs.declared.task.Sum.{Sum}
use Rattle.np_model.specs.declared.task.Sum.TheVariants as sum
use Rattle.np_model.specs.declared.task.Op.{Op}
use Rattle.np_model.specs.declared.task.Op.TheVariants as op
use Rattle.np_model.specs.declared.task.Cond.{Cond}
use Rattle.np_model.specs.declared.task.Cond.TheVariants as cond
use Rattle.np_model.specs.declared.task.Eff.{Eff}
use Rattle.np_model.specs.declared.task.Eff.TheVariants as eff
use Rattle.np_model.specs.Conditions.{turned}
use Rattle.np_words.specs.declared.word.Word.{Word}
use Rattle.np_words.specs.declared.word.Ident.{Ident}
use Rattle.np_words.specs.declared.word.Ident.TheVariants as ident
use Rattle.np_words.specs.declared.expr.Expr.{Expr, out-Expr}
use Rattle.np_words.specs.declared.expr.Expr.TheFolds.{fold-Expr}
use Rattle.np_words.specs.declared.expr.Expr.TheOpen.{Expr-F}
use Rattle.np_conditions.specs.declared.condition.Op.{Op as Comparison}
use Rattle.np_conditions.specs.declared.condition.Op.TheVariants as comparison
use Rattle.np_conditions.specs.declared.condition.Side.{Side}
use Rattle.np_conditions.specs.declared.condition.Side.TheVariants as side
use Rattle.np_conditions.specs.declared.condition.Condition.{Condition}
use Rattle.np_conditions.specs.declared.condition.Condition.TheFolds.{fold-Condition}
use Rattle.np_conditions.specs.declared.condition.Condition.TheOpen.{Condition-F}
use Rattle.np_conditions.specs.declared.effect.Effect.{Effect}
use Rattle.np_conditions.specs.declared.effect.Effect.TheFolds.{fold-Effect}
use Rattle.np_conditions.specs.declared.effect.Effect.TheOpen.{Effect-F}
use Rattle.np_names.specs.Names.{number_of}
use Rattle.np_words.specs.Numbers.{fraction_of}
use Rattle.np_typing.specs.Scopes.{Scope, ref_of}
use Rattle.np_declared.specs.Symbols.{symbol_names}
use Rattle.np_typing.specs.Uses.{bare_word_of, is_of_objects}

abbrev pub op_of : Comparison → Op
op_of comparison.Less = op.Less
op_of comparison.Greater = op.Greater
op_of comparison.AtMost = op.AtMost
op_of comparison.AtLeast = op.AtLeast

module _ (scope : Scope) where
  abbrev pub predicate_number : Word → ℕ
  predicate_number w = number_of (symbol_names scope.predicates) w.text

  abbrev pub function_number : Word → ℕ
  function_number w = number_of (symbol_names scope.functions) w.text

  abbrev pub refs_of : List Ident → List Ref
  refs_of idents = map (ref_of scope) idents

  -- ---- expressions

  abbrev pub sum_from : Expr-F Sum → Sum
  sum_from (Expr-F.Number number) = sum.Number (fraction_of number)
  sum_from (Expr-F.Bare w) = sum.Value (function_number w) []
  sum_from (Expr-F.Call w idents) = sum.Value (function_number w) (refs_of idents)
  sum_from (Expr-F.Minus x) = sum.Minus x
  sum_from (Expr-F.Sub x y) = sum.Sub x y
  sum_from (Expr-F.Div x y) = sum.Div x y
  sum_from (Expr-F.Add parts) = sum.Add parts
  sum_from (Expr-F.Mul parts) = sum.Mul parts

  abbrev pub sum_of : Expr → Sum
  sum_of = fold-Expr Sum sum_from

  -- ---- equalities

  -- the object that a side names
  abbrev pub word_ref : Option Word → Ref
  word_ref None = ref.Object 0
  word_ref (Some w) = ref_of scope (ident.Name w)

  abbrev pub side_ref : Side → Ref
  side_ref (side.Variable w) = ref_of scope (ident.Variable w)
  side_ref (side.Expr v place) = word_ref (bare_word_of (out-Expr v))

  -- the expression that a side is
  abbrev pub side_sum : Side → Sum
  side_sum (side.Variable w) = sum.Value 0 []
  side_sum (side.Expr v place) = sum_of v

  abbrev pub equality_of : Side → Side → Cond
  equality_of l r =
      if is_of_objects scope l r then cond.Same true (side_ref l) (side_ref r) else cond.Compare op.Equal (side_sum l) (side_sum r)

  -- ---- conditions: nested `and` is one list, and `not` round an order comparison turns it round

  abbrev pub conditions_from : Condition-F (List Cond) → List Cond
  conditions_from Condition-F.Nothing = []
  conditions_from (Condition-F.And parts) = flat_map (λ part. part) parts
  conditions_from (Condition-F.Atom w idents) = cond.Atom true (predicate_number w) (refs_of idents) ∷ []
  conditions_from (Condition-F.NotAtom w idents) = cond.Atom false (predicate_number w) (refs_of idents) ∷ []
  conditions_from (Condition-F.Compare o a b) = cond.Compare (op_of o) (sum_of a) (sum_of b) ∷ []
  conditions_from (Condition-F.NotCompare o a b) = cond.Compare (turned (op_of o)) (sum_of a) (sum_of b) ∷ []
  conditions_from (Condition-F.Equal l r) = equality_of l r ∷ []
  conditions_from (Condition-F.NotSame i j) = cond.Same false (ref_of scope i) (ref_of scope j) ∷ []

  abbrev pub conditions_of : Condition → List Cond
  conditions_of = fold-Condition (List Cond) conditions_from

  -- ---- effects

  abbrev pub effects_from : Effect-F (List Eff) → List Eff
  effects_from Effect-F.Nothing = []
  effects_from (Effect-F.And parts) = flat_map (λ part. part) parts
  effects_from (Effect-F.Add w idents) = eff.Add (predicate_number w) (refs_of idents) ∷ []
  effects_from (Effect-F.Delete w idents) = eff.Delete (predicate_number w) (refs_of idents) ∷ []
  effects_from (Effect-F.Increase w idents alone amount) = eff.Change true (function_number w) (refs_of idents) (sum_of amount) ∷ []
  effects_from (Effect-F.Decrease w idents alone amount) = eff.Change false (function_number w) (refs_of idents) (sum_of amount) ∷ []

  abbrev pub effects_of : Effect → List Eff
  effects_of = fold-Effect (List Eff) effects_from
