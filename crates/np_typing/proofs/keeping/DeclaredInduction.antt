-- Induction over expressions, conditions and effects: what each level keeps holds of all.
use Rattle.std.proofs.Common.{Bool, List, [], ◌∷◌, map, subst}
use Rattle.std.specs.Prelude.{All}
use Rattle.std.proofs.lemmas.List.Elements.{All-nil, All-cons}
use Rattle.np_words.specs.declared.word.Word.{Word}
use Rattle.np_words.specs.declared.word.Ident.{Ident}
use Rattle.np_words.specs.declared.word.Decimal.{Decimal}
use Rattle.np_words.specs.declared.expr.Expr.{Expr, map-Expr}
use Rattle.np_words.specs.declared.expr.Expr.TheFolds.{ind-Expr}
use Rattle.np_words.specs.declared.expr.Expr.TheOpen.{Expr-F}
use Rattle.np_words.specs.declared.expr.Expr.TheViews.{roll-Expr}
use Rattle.np_conditions.specs.declared.condition.Op.{Op}
use Rattle.np_conditions.specs.declared.condition.Side.{Side}
use Rattle.np_conditions.specs.declared.condition.Condition.{Condition, map-Condition}
use Rattle.np_conditions.specs.declared.condition.Condition.TheFolds.{ind-Condition}
use Rattle.np_conditions.specs.declared.condition.Condition.TheOpen.{Condition-F}
use Rattle.np_conditions.specs.declared.condition.Condition.TheViews.{roll-Condition}
use Rattle.np_conditions.specs.declared.effect.Effect.{Effect, map-Effect}
use Rattle.np_conditions.specs.declared.effect.Effect.TheFolds.{ind-Effect}
use Rattle.np_conditions.specs.declared.effect.Effect.TheOpen.{Effect-F}
use Rattle.np_conditions.specs.declared.effect.Effect.TheViews.{roll-Effect}

-- items, each with what is shown of it
all_shown : {A : Type 0} (P : A → Type 0) (ys : List ((x : A) × P x)) → All P (map (λ y. y.0) ys)
all_shown P [] = All-nil P
all_shown P (y ∷ ys) = All-cons P y.0 (map (λ z. z.0) ys) y.1 (all_shown P ys)

-- ---- expressions

pub record KeptByExpr (P : Expr → Type 0) : Type 0 where
  pub number : (d : Decimal) → P (roll-Expr (Expr-F.Number d))
  pub bare : (w : Word) → P (roll-Expr (Expr-F.Bare w))
  pub call : (w : Word) (idents : List Ident) → P (roll-Expr (Expr-F.Call w idents))
  pub minus : (a : Expr) → P a → P (roll-Expr (Expr-F.Minus a))
  pub sub : (a b : Expr) → P a → P b → P (roll-Expr (Expr-F.Sub a b))
  pub div : (a b : Expr) → P a → P b → P (roll-Expr (Expr-F.Div a b))
  pub add : (parts : List Expr) → All P parts → P (roll-Expr (Expr-F.Add parts))
  pub mul : (parts : List Expr) → All P parts → P (roll-Expr (Expr-F.Mul parts))

expr_level : (P : Expr → Type 0) → KeptByExpr P → (y : Expr-F ((v : Expr) × P v)) → P (roll-Expr (map-Expr ((v : Expr) × P v) Expr (λ v. v.0) y))
expr_level P k (Expr-F.Number d) = k.number d
expr_level P k (Expr-F.Bare w) = k.bare w
expr_level P k (Expr-F.Call w idents) = k.call w idents
expr_level P k (Expr-F.Minus a) = k.minus a.0 a.1
expr_level P k (Expr-F.Sub a b) = k.sub a.0 b.0 a.1 b.1
expr_level P k (Expr-F.Div a b) = k.div a.0 b.0 a.1 b.1
expr_level P k (Expr-F.Add ys) = k.add (map (λ v. v.0) ys) (all_shown P ys)
expr_level P k (Expr-F.Mul ys) = k.mul (map (λ v. v.0) ys) (all_shown P ys)

pub each_expr : (P : Expr → Type 0) → KeptByExpr P → (v : Expr) → P v
each_expr P k = ind-Expr P (λ x y is. subst (λ z. P (roll-Expr z)) is (expr_level P k y))

-- ---- conditions

pub record KeptByCondition (P : Condition → Type 0) : Type 0 where
  pub nothing : P (roll-Condition Condition-F.Nothing)
  pub both : (parts : List Condition) → All P parts → P (roll-Condition (Condition-F.And parts))
  pub atom : (w : Word) (idents : List Ident) → P (roll-Condition (Condition-F.Atom w idents))
  pub not_atom : (w : Word) (idents : List Ident) → P (roll-Condition (Condition-F.NotAtom w idents))
  pub compare : (op : Op) (a b : Expr) → P (roll-Condition (Condition-F.Compare op a b))
  pub not_compare : (op : Op) (a b : Expr) → P (roll-Condition (Condition-F.NotCompare op a b))
  pub equal : (l r : Side) → P (roll-Condition (Condition-F.Equal l r))
  pub not_same : (i j : Ident) → P (roll-Condition (Condition-F.NotSame i j))

condition_level : (P : Condition → Type 0) → KeptByCondition P → (y : Condition-F ((c : Condition) × P c)) → P (roll-Condition (map-Condition ((c : Condition) × P c) Condition (λ c. c.0) y))
condition_level P k Condition-F.Nothing = k.nothing
condition_level P k (Condition-F.And ys) = k.both (map (λ c. c.0) ys) (all_shown P ys)
condition_level P k (Condition-F.Atom w idents) = k.atom w idents
condition_level P k (Condition-F.NotAtom w idents) = k.not_atom w idents
condition_level P k (Condition-F.Compare op a b) = k.compare op a b
condition_level P k (Condition-F.NotCompare op a b) = k.not_compare op a b
condition_level P k (Condition-F.Equal l r) = k.equal l r
condition_level P k (Condition-F.NotSame i j) = k.not_same i j

pub each_condition : (P : Condition → Type 0) → KeptByCondition P → (c : Condition) → P c
each_condition P k = ind-Condition P (λ x y is. subst (λ z. P (roll-Condition z)) is (condition_level P k y))

-- ---- effects

pub record KeptByEffect (P : Effect → Type 0) : Type 0 where
  pub nothing : P (roll-Effect Effect-F.Nothing)
  pub both : (parts : List Effect) → All P parts → P (roll-Effect (Effect-F.And parts))
  pub adds : (w : Word) (idents : List Ident) → P (roll-Effect (Effect-F.Add w idents))
  pub deletes : (w : Word) (idents : List Ident) → P (roll-Effect (Effect-F.Delete w idents))
  pub increases : (w : Word) (idents : List Ident) (alone : Bool) (v : Expr) → P (roll-Effect (Effect-F.Increase w idents alone v))
  pub decreases : (w : Word) (idents : List Ident) (alone : Bool) (v : Expr) → P (roll-Effect (Effect-F.Decrease w idents alone v))

effect_level : (P : Effect → Type 0) → KeptByEffect P → (y : Effect-F ((e : Effect) × P e)) → P (roll-Effect (map-Effect ((e : Effect) × P e) Effect (λ e. e.0) y))
effect_level P k Effect-F.Nothing = k.nothing
effect_level P k (Effect-F.And ys) = k.both (map (λ e. e.0) ys) (all_shown P ys)
effect_level P k (Effect-F.Add w idents) = k.adds w idents
effect_level P k (Effect-F.Delete w idents) = k.deletes w idents
effect_level P k (Effect-F.Increase w idents alone v) = k.increases w idents alone v
effect_level P k (Effect-F.Decrease w idents alone v) = k.decreases w idents alone v

pub each_effect : (P : Effect → Type 0) → KeptByEffect P → (e : Effect) → P e
each_effect P k = ind-Effect P (λ x y is. subst (λ z. P (roll-Effect z)) is (effect_level P k y))
