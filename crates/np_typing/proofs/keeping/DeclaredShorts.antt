-- What is shorter than a bound has parts that are: the parts of conditions and effects, and the sums and products of expressions.
use Rattle.std.proofs.Common.{◌≡◌, ℕ, zero, suc, ◌+◌, ◌<◌, ◌≤◌, ◌^◌, Bool, true, refl, ◌∙◌, ap, arith, subst, List, [], ◌∷◌, length, map}
use Rattle.std.specs.Prelude.{All, ◌&&◌, nat_le, nat_lt}
use Rattle.std.specs.List.{list_all}
use Rattle.std.proofs.lemmas.Bool.{and_from, lt-ltb, le-leb}
use Rattle.std.proofs.lemmas.List.{length-map}
use Rattle.std.proofs.lemmas.List.Elements.{All-head, All-tail, All-weaker}
use Rattle.np_model.specs.declared.task.Sum.{Sum}
use Rattle.np_model.specs.Tasks.{has_parts, has_parts_from}
use Rattle.np_model.proofs.Expressions.{fold-Number, fold-Value, fold-Minus, fold-Sub, fold-Div, fold-Add, fold-Mul}
use Rattle.np_words.specs.declared.word.Word.{Word}
use Rattle.np_words.specs.declared.word.Ident.{Ident}
use Rattle.np_words.specs.declared.expr.Expr.{Expr, out-Expr}
use Rattle.np_words.specs.declared.expr.Expr.TheFolds.{fold-roll-Expr}
use Rattle.np_words.specs.declared.expr.Expr.TheOpen.{Expr-F}
use Rattle.np_words.specs.declared.expr.Expr.TheViews.{roll-Expr, roll-out-Expr}
use Rattle.np_conditions.specs.declared.condition.Op.{Op}
use Rattle.np_conditions.specs.declared.condition.Side.{Side}
use Rattle.np_conditions.specs.declared.condition.Condition.{Condition}
use Rattle.np_conditions.specs.declared.condition.Condition.TheFolds.{fold-roll-Condition}
use Rattle.np_conditions.specs.declared.condition.Condition.TheOpen.{Condition-F}
use Rattle.np_conditions.specs.declared.condition.Condition.TheViews.{roll-Condition}
use Rattle.np_conditions.specs.declared.effect.Effect.{Effect}
use Rattle.np_conditions.specs.declared.effect.Effect.TheFolds.{fold-roll-Effect}
use Rattle.np_conditions.specs.declared.effect.Effect.TheOpen.{Effect-F}
use Rattle.np_conditions.specs.declared.effect.Effect.TheViews.{roll-Effect}
use Rattle.np_words.specs.ExprText.{IsPlain, IsExprOf, IsExpr}
use Rattle.np_typing.specs.Scopes.{Scope}
use Rattle.np_typing.specs.Resolved.{sum_of, sum_from}
use Rattle.np_typing.proofs.keeping.DeclaredInduction.{each_expr}
use Rattle.np_typing.proofs.keeping.DeclaredSizes.{total, each_within, expr_size, expr_size_from, side_size, condition_size, condition_size_from, effect_size, effect_size_from}

-- ---- sums of a list that is made

total_map : {A : Type 0} (f : A → ℕ) (xs : List A) → total (λ n. n) (map f xs) ≡ total f xs
total_map f [] = refl
total_map f (x ∷ xs) = ap (λ n. f x + n) (total_map f xs)

each_below : {A : Type 0} (f : A → ℕ) (xs : List A) (n : ℕ) → total (λ m. m) (map f xs) < n → All (λ x. f x < n) xs
each_below f xs n less =
    let e = total_map f xs in
    All-weaker (λ x. f x ≤ total f xs) (λ x. f x < n) (λ x h. omega arith) xs (each_within f xs)

-- ---- the parts of conditions and effects

pub both_short : (n : ℕ) (parts : List Condition) → condition_size (roll-Condition (Condition-F.And parts)) < n → All (λ c. condition_size c < n) parts
both_short n parts h = let e = fold-roll-Condition ℕ condition_size_from (Condition-F.And parts) in each_below condition_size parts n (omega arith)

pub compare_short : (n : ℕ) (op : Op) (a b : Expr) → condition_size (roll-Condition (Condition-F.Compare op a b)) < n → (expr_size a < n) × (expr_size b < n)
compare_short n op a b h = let e = fold-roll-Condition ℕ condition_size_from (Condition-F.Compare op a b) in (omega arith, omega arith)

pub not_compare_short : (n : ℕ) (op : Op) (a b : Expr) → condition_size (roll-Condition (Condition-F.NotCompare op a b)) < n → (expr_size a < n) × (expr_size b < n)
not_compare_short n op a b h = let e = fold-roll-Condition ℕ condition_size_from (Condition-F.NotCompare op a b) in (omega arith, omega arith)

pub equal_short : (n : ℕ) (l r : Side) → condition_size (roll-Condition (Condition-F.Equal l r)) < n → (side_size l < n) × (side_size r < n)
equal_short n l r h = let e = fold-roll-Condition ℕ condition_size_from (Condition-F.Equal l r) in (omega arith, omega arith)

pub both_effects_short : (n : ℕ) (parts : List Effect) → effect_size (roll-Effect (Effect-F.And parts)) < n → All (λ e. effect_size e < n) parts
both_effects_short n parts h = let e = fold-roll-Effect ℕ effect_size_from (Effect-F.And parts) in each_below effect_size parts n (omega arith)

pub increase_short : (n : ℕ) (w : Word) (idents : List Ident) (alone : Bool) (v : Expr) → effect_size (roll-Effect (Effect-F.Increase w idents alone v)) < n → expr_size v < n
increase_short n w idents alone v h = let e = fold-roll-Effect ℕ effect_size_from (Effect-F.Increase w idents alone v) in omega arith

pub decrease_short : (n : ℕ) (w : Word) (idents : List Ident) (alone : Bool) (v : Expr) → effect_size (roll-Effect (Effect-F.Decrease w idents alone v)) < n → expr_size v < n
decrease_short n w idents alone v h = let e = fold-roll-Effect ℕ effect_size_from (Effect-F.Decrease w idents alone v) in omega arith

-- ---- sums and products

size_at : (x : Expr-F Expr) (n : ℕ) → 1 ≤ n → expr_size (roll-Expr x) ≡ n → 1 ≤ expr_size (roll-Expr x)
size_at x n h e = omega arith

pub some_size : (v : Expr) → 1 ≤ expr_size v
some_size = each_expr (λ v. 1 ≤ expr_size v) (record {
  number = λ d. size_at (Expr-F.Number d) _ (omega arith) (fold-roll-Expr ℕ expr_size_from (Expr-F.Number d));
  bare = λ w. size_at (Expr-F.Bare w) _ (omega arith) (fold-roll-Expr ℕ expr_size_from (Expr-F.Bare w));
  call = λ w idents. size_at (Expr-F.Call w idents) _ (omega arith) (fold-roll-Expr ℕ expr_size_from (Expr-F.Call w idents));
  minus = λ a p. size_at (Expr-F.Minus a) _ (omega arith) (fold-roll-Expr ℕ expr_size_from (Expr-F.Minus a));
  sub = λ a b p q. size_at (Expr-F.Sub a b) _ (omega arith) (fold-roll-Expr ℕ expr_size_from (Expr-F.Sub a b));
  div = λ a b p q. size_at (Expr-F.Div a b) _ (omega arith) (fold-roll-Expr ℕ expr_size_from (Expr-F.Div a b));
  add = λ parts p. size_at (Expr-F.Add parts) _ (omega arith) (fold-roll-Expr ℕ expr_size_from (Expr-F.Add parts));
  mul = λ parts p. size_at (Expr-F.Mul parts) _ (omega arith) (fold-roll-Expr ℕ expr_size_from (Expr-F.Mul parts));
})

parts_counted : (parts : List Expr) → length parts ≤ total (λ n. n) (map expr_size parts)
parts_counted [] = omega arith
parts_counted (v ∷ parts) = let a = some_size v in let b = parts_counted parts in omega arith

module _ (scope : Scope) where
  abbrev HasParts : Expr → Type 0
  HasParts v = expr_size v < 2 ^ 32 → has_parts (sum_of scope v) ≡ true

  sum_at : (x : Expr-F Expr) (s : Sum) → sum_of scope (roll-Expr x) ≡ s → has_parts s ≡ true → has_parts (sum_of scope (roll-Expr x)) ≡ true
  sum_at x s e h = ap has_parts e ∙ h

  module _ (Q : Expr → Type 0) (each : (v : Expr) → Q v → HasParts v) where
    all_have : (parts : List Expr) → All Q parts → All (λ v. expr_size v < 2 ^ 32) parts → list_all (λ x. x) (map has_parts (map (sum_of scope) parts)) ≡ true
    all_have [] h less = refl
    all_have (v ∷ parts) h less =
        and_from _ _ (each v (All-head Q v parts h) (All-head (λ u. expr_size u < 2 ^ 32) v parts less)) (all_have parts (All-tail Q v parts h) (All-tail (λ u. expr_size u < 2 ^ 32) v parts less))

    counted : (parts : List Expr) → 2 ≤ length parts → All Q parts → total (λ n. n) (map expr_size parts) < 2 ^ 32
        → ((nat_le 2 (length (map has_parts (map (sum_of scope) parts))) && nat_lt (length (map has_parts (map (sum_of scope) parts))) (2 ^ 32))
        && list_all (λ x. x) (map has_parts (map (sum_of scope) parts))) ≡ true
    counted parts two h less =
        let same = length-map (map (sum_of scope) parts) has_parts in
        let same_before = length-map parts (sum_of scope) in
        let few = parts_counted parts in
        and_from _ _
        (and_from _ _ (le-leb 2 (length (map has_parts (map (sum_of scope) parts))) (omega arith)) (lt-ltb (length (map has_parts (map (sum_of scope) parts))) (2 ^ 32) (omega arith)))
        (all_have parts h (each_below expr_size parts (2 ^ 32) less))

    parts_at : (x : Expr-F Expr) → IsExprOf Q x → HasParts (roll-Expr x)
    parts_at (Expr-F.Number d) h less = sum_at (Expr-F.Number d) _ (fold-roll-Expr Sum (sum_from scope) (Expr-F.Number d)) (fold-Number Bool has_parts_from _)
    parts_at (Expr-F.Bare w) h less = sum_at (Expr-F.Bare w) _ (fold-roll-Expr Sum (sum_from scope) (Expr-F.Bare w)) (fold-Value Bool has_parts_from _ _)
    parts_at (Expr-F.Call w idents) h less = sum_at (Expr-F.Call w idents) _ (fold-roll-Expr Sum (sum_from scope) (Expr-F.Call w idents)) (fold-Value Bool has_parts_from _ _)
    parts_at (Expr-F.Minus a) h less =
        let e = fold-roll-Expr ℕ expr_size_from (Expr-F.Minus a) in
        sum_at (Expr-F.Minus a) _ (fold-roll-Expr Sum (sum_from scope) (Expr-F.Minus a)) (fold-Minus Bool has_parts_from _ ∙ each a h (omega arith))
    parts_at (Expr-F.Sub a b) h less =
        let e = fold-roll-Expr ℕ expr_size_from (Expr-F.Sub a b) in
        sum_at (Expr-F.Sub a b) _ (fold-roll-Expr Sum (sum_from scope) (Expr-F.Sub a b)) (fold-Sub Bool has_parts_from _ _ ∙ and_from _ _ (each a h.0 (omega arith)) (each b h.1 (omega arith)))
    parts_at (Expr-F.Div a b) h less =
        let e = fold-roll-Expr ℕ expr_size_from (Expr-F.Div a b) in
        sum_at (Expr-F.Div a b) _ (fold-roll-Expr Sum (sum_from scope) (Expr-F.Div a b)) (fold-Div Bool has_parts_from _ _ ∙ and_from _ _ (each a h.0 (omega arith)) (each b h.1 (omega arith)))
    parts_at (Expr-F.Add parts) h less =
        let e = fold-roll-Expr ℕ expr_size_from (Expr-F.Add parts) in
        sum_at (Expr-F.Add parts) _ (fold-roll-Expr Sum (sum_from scope) (Expr-F.Add parts)) (fold-Add Bool has_parts_from (map (sum_of scope) parts) ∙ counted parts h.0 h.1 (omega arith))
    parts_at (Expr-F.Mul parts) h less =
        let e = fold-roll-Expr ℕ expr_size_from (Expr-F.Mul parts) in
        sum_at (Expr-F.Mul parts) _ (fold-roll-Expr Sum (sum_from scope) (Expr-F.Mul parts)) (fold-Mul Bool has_parts_from (map (sum_of scope) parts) ∙ counted parts h.0 h.1 (omega arith))

  plain_at : (x : Expr-F Expr) → IsPlain x → HasParts (roll-Expr x)
  plain_at (Expr-F.Number d) h less = sum_at (Expr-F.Number d) _ (fold-roll-Expr Sum (sum_from scope) (Expr-F.Number d)) (fold-Number Bool has_parts_from _)
  plain_at (Expr-F.Bare w) h less = sum_at (Expr-F.Bare w) _ (fold-roll-Expr Sum (sum_from scope) (Expr-F.Bare w)) (fold-Value Bool has_parts_from _ _)
  plain_at (Expr-F.Call w idents) h less = absurd h
  plain_at (Expr-F.Minus a) h less = absurd h
  plain_at (Expr-F.Sub a b) h less = absurd h
  plain_at (Expr-F.Div a b) h less = absurd h
  plain_at (Expr-F.Add parts) h less = absurd h
  plain_at (Expr-F.Mul parts) h less = absurd h

  -- sums and products of an expression that is short have two parts or more, and few enough
  pub parts_short : (depth : ℕ) (v : Expr) → IsExpr depth v → expr_size v < 2 ^ 32 → has_parts (sum_of scope v) ≡ true
  parts_short zero v h less = subst HasParts (roll-out-Expr v) (plain_at (out-Expr v) h) less
  parts_short (suc depth) v h less = subst HasParts (roll-out-Expr v) (parts_at (IsExpr depth) (parts_short depth) (out-Expr v) h) less
