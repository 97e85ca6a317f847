-- Folds of expressions, conditions and effects that have parts.
use Rattle.std.proofs.Common.{◌≡◌, Bool, List, [], ◌∷◌, ◌++◌, map, refl, sym, ap, ◌∙◌}
use Rattle.std.specs.List.{flat_map}
use Rattle.np_model.specs.declared.task.Sum.{Sum}
use Rattle.np_model.specs.declared.task.Sum.TheVariants as sum
use Rattle.np_model.specs.declared.task.Cond.{Cond}
use Rattle.np_model.specs.declared.task.Eff.{Eff}
use Rattle.np_words.specs.declared.expr.Expr.{Expr}
use Rattle.np_words.specs.declared.expr.Expr.TheFolds.{fold-Expr, fold-roll-Expr}
use Rattle.np_words.specs.declared.expr.Expr.TheOpen.{Expr-F}
use Rattle.np_words.specs.declared.expr.Expr.TheVariants as expr
use Rattle.np_conditions.specs.declared.condition.Condition.{Condition}
use Rattle.np_conditions.specs.declared.condition.Condition.TheFolds.{fold-roll-Condition}
use Rattle.np_conditions.specs.declared.condition.Condition.TheOpen.{Condition-F}
use Rattle.np_conditions.specs.declared.condition.Condition.TheVariants as condition
use Rattle.np_conditions.specs.declared.effect.Effect.{Effect}
use Rattle.np_conditions.specs.declared.effect.Effect.TheFolds.{fold-roll-Effect}
use Rattle.np_conditions.specs.declared.effect.Effect.TheOpen.{Effect-F}
use Rattle.np_conditions.specs.declared.effect.Effect.TheVariants as effect
use Rattle.np_names.specs.declared.fault.TypeFault.{TypeFault}
use Rattle.np_typing.specs.Scopes.{Scope}
use Rattle.np_typing.specs.Uses.{expr_faults_from, expr_faults, condition_faults_from, condition_faults, effect_faults_from, effect_faults}
use Rattle.np_typing.specs.Resolved.{sum_from, sum_of, conditions_from, conditions_of, effects_from, effects_of}

-- what each part gives, one after the other
pub joined : {X A : Type 0} (f : X → List A) (xs : List X) → flat_map (λ part. part) (map f xs) ≡ flat_map f xs
joined f [] = refl
joined f (x ∷ xs) = ap (λ ys. f x ++ ys) (joined f xs)

-- ---- expressions

fold-Add : (A : Type 0) (step : Expr-F A → A) (xs : List Expr) → fold-Expr A step (expr.Add xs) ≡ step (Expr-F.Add (map (fold-Expr A step) xs))
fold-Add A step xs = ap (fold-Expr A step) (sym (expr.rolls-Add xs)) ∙ fold-roll-Expr A step (Expr-F.Add xs)

fold-Mul : (A : Type 0) (step : Expr-F A → A) (xs : List Expr) → fold-Expr A step (expr.Mul xs) ≡ step (Expr-F.Mul (map (fold-Expr A step) xs))
fold-Mul A step xs = ap (fold-Expr A step) (sym (expr.rolls-Mul xs)) ∙ fold-roll-Expr A step (Expr-F.Mul xs)

pub faults_of_sum : (scope : Scope) (in_amount : Bool) (v : Expr) (xs : List Expr) → v ≡ expr.Add xs → expr_faults scope in_amount v ≡ flat_map (expr_faults scope in_amount) xs
faults_of_sum scope in_amount v xs is = ap (expr_faults scope in_amount) is ∙ fold-Add (List TypeFault) (expr_faults_from scope in_amount) xs ∙ joined (expr_faults scope in_amount) xs

pub faults_of_product : (scope : Scope) (in_amount : Bool) (v : Expr) (xs : List Expr) → v ≡ expr.Mul xs → expr_faults scope in_amount v ≡ flat_map (expr_faults scope in_amount) xs
faults_of_product scope in_amount v xs is = ap (expr_faults scope in_amount) is ∙ fold-Mul (List TypeFault) (expr_faults_from scope in_amount) xs ∙ joined (expr_faults scope in_amount) xs

pub sum_of_parts : (scope : Scope) (v : Expr) (xs : List Expr) (ys : List Sum) → v ≡ expr.Add xs → ys ≡ map (sum_of scope) xs → sum.Add ys ≡ sum_of scope v
sum_of_parts scope v xs ys is e = ap sum.Add e ∙ sym (ap (sum_of scope) is ∙ fold-Add Sum (sum_from scope) xs)

pub product_of_parts : (scope : Scope) (v : Expr) (xs : List Expr) (ys : List Sum) → v ≡ expr.Mul xs → ys ≡ map (sum_of scope) xs → sum.Mul ys ≡ sum_of scope v
product_of_parts scope v xs ys is e = ap sum.Mul e ∙ sym (ap (sum_of scope) is ∙ fold-Mul Sum (sum_from scope) xs)

-- ---- conditions

pub faults_of_conditions : (scope : Scope) (v : Condition) (xs : List Condition) → v ≡ condition.And xs → condition_faults scope v ≡ flat_map (condition_faults scope) xs
faults_of_conditions scope v xs is =
    ap (condition_faults scope) (is ∙ sym (condition.rolls-And xs)) ∙ fold-roll-Condition (List TypeFault) (condition_faults_from scope) (Condition-F.And xs) ∙ joined (condition_faults scope) xs

pub conditions_of_parts : (scope : Scope) (v : Condition) (xs : List Condition) → v ≡ condition.And xs → conditions_of scope v ≡ flat_map (conditions_of scope) xs
conditions_of_parts scope v xs is =
    ap (conditions_of scope) (is ∙ sym (condition.rolls-And xs)) ∙ fold-roll-Condition (List Cond) (conditions_from scope) (Condition-F.And xs) ∙ joined (conditions_of scope) xs

-- ---- effects

pub faults_of_effects : (scope : Scope) (v : Effect) (xs : List Effect) → v ≡ effect.And xs → effect_faults scope v ≡ flat_map (effect_faults scope) xs
faults_of_effects scope v xs is =
    ap (effect_faults scope) (is ∙ sym (effect.rolls-And xs)) ∙ fold-roll-Effect (List TypeFault) (effect_faults_from scope) (Effect-F.And xs) ∙ joined (effect_faults scope) xs

pub effects_of_parts : (scope : Scope) (v : Effect) (xs : List Effect) → v ≡ effect.And xs → effects_of scope v ≡ flat_map (effects_of scope) xs
effects_of_parts scope v xs is =
    ap (effects_of scope) (is ∙ sym (effect.rolls-And xs)) ∙ fold-roll-Effect (List Eff) (effects_from scope) (Effect-F.And xs) ∙ joined (effects_of scope) xs
