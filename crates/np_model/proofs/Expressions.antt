-- Folds of an expression, one level at a time: an expression of each kind, from the results of its parts.
use Rattle.std.proofs.Common.{◌≡◌, ℕ, sym, ◌∙◌, ap, List, map}
use Rattle.std.specs.Prelude.{Some, option_map}
use Rattle.np_frac.specs.Fractions.{Fraction, minus}
use Rattle.np_model.specs.declared.task.Ref.{Ref}
use Rattle.np_model.specs.declared.task.Sum.{Sum, Sum-F, fold-Sum, fold-roll-Sum}
use Rattle.np_model.specs.declared.task.Sum.TheVariants as expr
use Rattle.np_model.specs.declared.task.Sum.TheOpen as part
use Rattle.np_model.specs.Ground.{term_of}
use Rattle.np_model.specs.States.{State}
use Rattle.np_model.specs.Values.{value_of, of_both, negated, quotient_of, sum_of, product_of}

pub fold-Number : (A : Type 0) (step : Sum-F A → A) (x : Fraction) → fold-Sum A step (expr.Number x) ≡ step (part.Number x)
fold-Number A step x = ap (fold-Sum A step) (sym (expr.rolls-Number x)) ∙ fold-roll-Sum A step (part.Number x)

pub fold-Value : (A : Type 0) (step : Sum-F A → A) (function : ℕ) (refs : List Ref) → fold-Sum A step (expr.Value function refs) ≡ step (part.Value function refs)
fold-Value A step function refs = ap (fold-Sum A step) (sym (expr.rolls-Value function refs)) ∙ fold-roll-Sum A step (part.Value function refs)

pub fold-Minus : (A : Type 0) (step : Sum-F A → A) (x : Sum) → fold-Sum A step (expr.Minus x) ≡ step (part.Minus (fold-Sum A step x))
fold-Minus A step x = ap (fold-Sum A step) (sym (expr.rolls-Minus x)) ∙ fold-roll-Sum A step (part.Minus x)

pub fold-Sub : (A : Type 0) (step : Sum-F A → A) (x y : Sum) → fold-Sum A step (expr.Sub x y) ≡ step (part.Sub (fold-Sum A step x) (fold-Sum A step y))
fold-Sub A step x y = ap (fold-Sum A step) (sym (expr.rolls-Sub x y)) ∙ fold-roll-Sum A step (part.Sub x y)

pub fold-Div : (A : Type 0) (step : Sum-F A → A) (x y : Sum) → fold-Sum A step (expr.Div x y) ≡ step (part.Div (fold-Sum A step x) (fold-Sum A step y))
fold-Div A step x y = ap (fold-Sum A step) (sym (expr.rolls-Div x y)) ∙ fold-roll-Sum A step (part.Div x y)

pub fold-Add : (A : Type 0) (step : Sum-F A → A) (xs : List Sum) → fold-Sum A step (expr.Add xs) ≡ step (part.Add (map (fold-Sum A step) xs))
fold-Add A step xs = ap (fold-Sum A step) (sym (expr.rolls-Add xs)) ∙ fold-roll-Sum A step (part.Add xs)

pub fold-Mul : (A : Type 0) (step : Sum-F A → A) (xs : List Sum) → fold-Sum A step (expr.Mul xs) ≡ step (part.Mul (map (fold-Sum A step) xs))
fold-Mul A step xs = ap (fold-Sum A step) (sym (expr.rolls-Mul xs)) ∙ fold-roll-Sum A step (part.Mul xs)

-- the value of an expression of each kind
pub value_of-Number : (objects : List ℕ) (s : State) (x : Fraction) → value_of objects s (expr.Number x) ≡ Some x
value_of-Number objects s x = fold-Number _ _ x

pub value_of-Value : (objects : List ℕ) (s : State) (function : ℕ) (refs : List Ref) → value_of objects s (expr.Value function refs) ≡ s.value (term_of objects function refs)
value_of-Value objects s function refs = fold-Value _ _ function refs

pub value_of-Minus : (objects : List ℕ) (s : State) (x : Sum) → value_of objects s (expr.Minus x) ≡ option_map negated (value_of objects s x)
value_of-Minus objects s x = fold-Minus _ _ x

pub value_of-Sub : (objects : List ℕ) (s : State) (x y : Sum) → value_of objects s (expr.Sub x y) ≡ of_both minus (value_of objects s x) (value_of objects s y)
value_of-Sub objects s x y = fold-Sub _ _ x y

pub value_of-Div : (objects : List ℕ) (s : State) (x y : Sum) → value_of objects s (expr.Div x y) ≡ quotient_of (value_of objects s x) (value_of objects s y)
value_of-Div objects s x y = fold-Div _ _ x y

pub value_of-Add : (objects : List ℕ) (s : State) (xs : List Sum) → value_of objects s (expr.Add xs) ≡ sum_of (map (value_of objects s) xs)
value_of-Add objects s xs = fold-Add _ _ xs

pub value_of-Mul : (objects : List ℕ) (s : State) (xs : List Sum) → value_of objects s (expr.Mul xs) ≡ product_of (map (value_of objects s) xs)
value_of-Mul objects s xs = fold-Mul _ _ xs

pub ruleset values = (value_of-Number, value_of-Value, value_of-Minus, value_of-Sub, value_of-Div, value_of-Add, value_of-Mul)
