-- How deep the parts of an expression are.
use Rattle.std.proofs.Common.{◌≡◌, ℕ, suc, ◌≤◌, max, arith, List, [], ◌∷◌, map}
use Rattle.std.specs.Prelude.{All}
use Rattle.std.proofs.lemmas.List.Elements.{All-cons, All-nil}
use Rattle.np_frac.specs.Fractions.{Fraction}
use Rattle.np_model.specs.declared.task.Ref.{Ref}
use Rattle.np_model.specs.declared.task.Sum.{Sum}
use Rattle.np_model.specs.declared.task.Sum.TheVariants as expr
use Rattle.np_model.specs.Tasks.{largest, depth_of}
use Rattle.np_model.proofs.Expressions.{fold-Number, fold-Value, fold-Minus, fold-Sub, fold-Div, fold-Add, fold-Mul}

-- the depth of an expression of each kind
pub depth_of-Number : (x : Fraction) → depth_of (expr.Number x) ≡ 0
depth_of-Number x = fold-Number _ _ x

pub depth_of-Value : (function : ℕ) (refs : List Ref) → depth_of (expr.Value function refs) ≡ 0
depth_of-Value function refs = fold-Value _ _ function refs

pub depth_of-Minus : (x : Sum) → depth_of (expr.Minus x) ≡ suc (depth_of x)
depth_of-Minus x = fold-Minus _ _ x

pub depth_of-Sub : (x y : Sum) → depth_of (expr.Sub x y) ≡ suc (max (depth_of x) (depth_of y))
depth_of-Sub x y = fold-Sub _ _ x y

pub depth_of-Div : (x y : Sum) → depth_of (expr.Div x y) ≡ suc (max (depth_of x) (depth_of y))
depth_of-Div x y = fold-Div _ _ x y

pub depth_of-Add : (xs : List Sum) → depth_of (expr.Add xs) ≡ suc (largest (map depth_of xs))
depth_of-Add xs = fold-Add _ _ xs

pub depth_of-Mul : (xs : List Sum) → depth_of (expr.Mul xs) ≡ suc (largest (map depth_of xs))
depth_of-Mul xs = fold-Mul _ _ xs

pub ruleset depths = (depth_of-Number, depth_of-Value, depth_of-Minus, depth_of-Sub, depth_of-Div, depth_of-Add, depth_of-Mul)

-- the parts of a sum or product are no deeper than the largest of their depths, and it is at most what they all are
pub parts_within : (xs : List Sum) (n : ℕ) → largest (map depth_of xs) ≤ n → All (λ x. depth_of x ≤ n) xs
parts_within [] n h = All-nil (λ x. depth_of x ≤ n)
parts_within (x ∷ xs) n h = All-cons (λ x. depth_of x ≤ n) x xs (omega (arith, h)) (parts_within xs n (omega (arith, h)))

pub largest_within : (xs : List Sum) (n : ℕ) → All (λ x. depth_of x ≤ n) xs → largest (map depth_of xs) ≤ n
largest_within [] n h = omega arith
largest_within (x ∷ xs) n h = omega (arith, h 0 x (omega arith), largest_within xs n (λ k d l. h (suc k) d (omega (arith, l))))
