-- An expression without faults stands for one that the task allows.
use Rattle.std.proofs.Common.{◌≡◌, ℕ, zero, suc, ◌^◌, ◌<◌, ◌≤◌, Bool, true, List, [], ◌∷◌, map, flat_map, sym, subst, ap, ◌∙◌}
use Rattle.std.specs.List.{AllByRecursion}
use Rattle.std.proofs.lemmas.List.Elements.{recursion_from_All}
use Rattle.np_model.specs.declared.task.Sum.{Sum}
use Rattle.np_model.specs.declared.task.TaskParts.{TaskParts}
use Rattle.np_model.specs.Tasks.{is_sum}
use Rattle.np_words.specs.declared.expr.Expr.{Expr, out-Expr}
use Rattle.np_words.specs.declared.expr.Expr.TheFolds.{fold-Expr, fold-roll-Expr, map-Expr}
use Rattle.np_words.specs.declared.expr.Expr.TheOpen.{Expr-F}
use Rattle.np_words.specs.declared.expr.Expr.TheViews.{roll-out-Expr}
use Rattle.np_words.specs.ExprText.{IsPlain, IsExprOf, IsExpr}
use Rattle.np_names.specs.declared.fault.TypeFault.{TypeFault}
use Rattle.np_words.specs.Numbers.{fraction_of}
use Rattle.np_typing.specs.Scopes.{Scope}
use Rattle.np_typing.specs.Uses.{expr_faults_from, expr_faults}
use Rattle.np_typing.specs.Resolved.{sum_from, sum_of}
use Rattle.np_typing.proofs.keeping.DeclaredSizes.{expr_size}
use Rattle.np_typing.proofs.keeping.DeclaredShorts.{parts_short}
use Rattle.np_typing.proofs.keeping.UsedLists.{both_none}
use Rattle.np_typing.proofs.keeping.UsedSymbols.{Agrees, function_fits, function_is_fixed}
use Rattle.np_typing.proofs.keeping.UsedSums.{IsFine, fine_number, fine_value, fine_minus, fine_sub, fine_div, fine_add, fine_mul, fine_is_sum}

-- a fold by the level of an expression
at_level : (A : Type 0) (f : Expr-F A → A) (v : Expr) → fold-Expr A f v ≡ f (map-Expr Expr A (fold-Expr A f) (out-Expr v))
at_level A f v = ap (fold-Expr A f) (sym (roll-out-Expr v)) ∙ fold-roll-Expr A f (out-Expr v)

module _ (scope : Scope) (task : TaskParts) (parameters : List ℕ) (agrees : Agrees scope task parameters) (in_amount : Bool) where
  abbrev Fine : ℕ → Sum → Type 0
  Fine = IsFine task parameters in_amount

  abbrev faults : Expr → List TypeFault
  faults = expr_faults scope in_amount

  fine_plain : (x : Expr-F Expr) → IsPlain x → expr_faults_from scope in_amount (map-Expr Expr (List TypeFault) faults x) ≡ []
      → Fine 0 (sum_from scope (map-Expr Expr Sum (sum_of scope) x))
  fine_plain (Expr-F.Number d) is h = fine_number task parameters in_amount 0 (fraction_of d)
  fine_plain (Expr-F.Bare w) is h =
      fine_value task parameters in_amount 0 _ [] (function_fits scope task parameters agrees in_amount w [] h) (function_is_fixed scope task parameters agrees in_amount w [] h)
  fine_plain (Expr-F.Call w idents) is h = absurd is
  fine_plain (Expr-F.Minus a) is h = absurd is
  fine_plain (Expr-F.Sub a b) is h = absurd is
  fine_plain (Expr-F.Div a b) is h = absurd is
  fine_plain (Expr-F.Add parts) is h = absurd is
  fine_plain (Expr-F.Mul parts) is h = absurd is

  module _ (depth : ℕ) (fine_part : (v : Expr) → IsExpr depth v → faults v ≡ [] → Fine depth (sum_of scope v)) where
    row_fine : (parts : List Expr) → AllByRecursion (IsExpr depth) parts → flat_map (λ part. part) (map faults parts) ≡ [] → AllByRecursion (Fine depth) (map (sum_of scope) parts)
    row_fine [] is h = tt
    row_fine (v ∷ parts) is h =
        let p = both_none (faults v) (flat_map (λ part. part) (map faults parts)) h in (fine_part v is.0 p.0, row_fine parts is.1 p.1)

    fine_of : (x : Expr-F Expr) → IsExprOf (IsExpr depth) x → expr_faults_from scope in_amount (map-Expr Expr (List TypeFault) faults x) ≡ []
        → Fine (suc depth) (sum_from scope (map-Expr Expr Sum (sum_of scope) x))
    fine_of (Expr-F.Number d) is h = fine_number task parameters in_amount (suc depth) (fraction_of d)
    fine_of (Expr-F.Bare w) is h =
        fine_value task parameters in_amount (suc depth) _ [] (function_fits scope task parameters agrees in_amount w [] h) (function_is_fixed scope task parameters agrees in_amount w [] h)
    fine_of (Expr-F.Call w idents) is h =
        fine_value task parameters in_amount (suc depth) _ _ (function_fits scope task parameters agrees in_amount w idents h) (function_is_fixed scope task parameters agrees in_amount w idents h)
    fine_of (Expr-F.Minus a) is h = fine_minus task parameters in_amount depth _ (fine_part a is h)
    fine_of (Expr-F.Sub a b) is h = let p = both_none (faults a) (faults b) h in fine_sub task parameters in_amount depth _ _ (fine_part a is.0 p.0) (fine_part b is.1 p.1)
    fine_of (Expr-F.Div a b) is h = let p = both_none (faults a) (faults b) h in fine_div task parameters in_amount depth _ _ (fine_part a is.0 p.0) (fine_part b is.1 p.1)
    fine_of (Expr-F.Add parts) is h = fine_add task parameters in_amount depth _ (row_fine parts (recursion_from_All (IsExpr depth) parts is.1) h)
    fine_of (Expr-F.Mul parts) is h = fine_mul task parameters in_amount depth _ (row_fine parts (recursion_from_All (IsExpr depth) parts is.1) h)

  by_level : (depth : ℕ) (v : Expr) → Fine depth (sum_from scope (map-Expr Expr Sum (sum_of scope) (out-Expr v))) → Fine depth (sum_of scope v)
  by_level depth v h = subst (Fine depth) (sym (at_level Sum (sum_from scope) v)) h

  level_faults : (v : Expr) → faults v ≡ [] → expr_faults_from scope in_amount (map-Expr Expr (List TypeFault) faults (out-Expr v)) ≡ []
  level_faults v h = sym (at_level (List TypeFault) (expr_faults_from scope in_amount) v) ∙ h

  pub fine : (depth : ℕ) (v : Expr) → IsExpr depth v → expr_faults scope in_amount v ≡ [] → IsFine task parameters in_amount depth (sum_of scope v)
  fine zero v is h = by_level 0 v (fine_plain (out-Expr v) is (level_faults v h))
  fine (suc depth) v is h = by_level (suc depth) v (fine_of depth (λ part p e. fine depth part p e) (out-Expr v) is (level_faults v h))

  pub sum_fits : (depth : ℕ) (v : Expr) → depth ≤ 256 → IsExpr depth v → expr_size v < 2 ^ 32 → expr_faults scope in_amount v ≡ [] → is_sum task parameters (sum_of scope v) ≡ true
  sum_fits depth v few is short h = fine_is_sum task parameters in_amount depth _ few (parts_short scope depth v is short) (fine depth v is h)
