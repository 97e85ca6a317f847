-- The value of an expression in a state, or none. When there is none is this project's own rule.
use Rattle.std.specs.Prelude.{ℕ, pos, Bool, true, ◌&&◌, List, [], ◌∷◌, ◌++◌, fold, Option, Some, None, option_map}
use Rattle.std.specs.List.{list_all, flat_map}
use Rattle.np_frac.specs.Fractions.{Fraction, whole, plus, minus, times}
use Rattle.np_frac.specs.Checked.{quotient}
use Rattle.np_model.specs.declared.task.Ref.{Ref}
use Rattle.np_model.specs.declared.task.Term.{Term}
use Rattle.np_model.specs.declared.task.Sum.{Sum, Sum-F, fold-Sum}
use Rattle.np_model.specs.declared.task.Sum.TheOpen as part
use Rattle.np_model.specs.Ground.{term_of}
use Rattle.np_model.specs.States.{State}

-- what two values give, and none where one of them is missing
abbrev pub of_both : {A : Type 0} → (Fraction → Fraction → A) → Option Fraction → Option Fraction → Option A
of_both f (Some x) (Some y) = Some (f x y)
of_both f (Some x) None = None
of_both f None y = None

-- the negated number
abbrev pub negated : Fraction → Fraction
negated x = minus (whole (pos 0)) x

-- the quotient, and none where the divisor is missing or 0
abbrev pub quotient_of : Option Fraction → Option Fraction → Option Fraction
quotient_of (Some x) (Some y) = quotient x y
quotient_of (Some x) None = None
quotient_of None y = None

-- the values added up, and none where one is missing
abbrev pub sum_of : List (Option Fraction) → Option Fraction
sum_of values = fold (of_both plus) (Some (whole (pos 0))) values

-- the values multiplied, and none where one is missing
abbrev pub product_of : List (Option Fraction) → Option Fraction
product_of values = fold (of_both times) (Some (whole (pos 1))) values

-- the value of an expression, from the values of its parts
abbrev pub value_from : List ℕ → State → Sum-F (Option Fraction) → Option Fraction
value_from objects s (part.Number x) = Some x
value_from objects s (part.Value function refs) = s.value (term_of objects function refs)
value_from objects s (part.Minus x) = option_map negated x
value_from objects s (part.Sub x y) = of_both minus x y
value_from objects s (part.Div x y) = quotient_of x y
value_from objects s (part.Add xs) = sum_of xs
value_from objects s (part.Mul xs) = product_of xs

-- the value of an expression in a state, where the parameters stand for these objects:
-- none where it reads a term that has no value, or divides by 0
abbrev pub value_of : List ℕ → State → Sum → Option Fraction
value_of objects s = fold-Sum (Option Fraction) (value_from objects s)

-- whether each term that an expression reads passes a test
abbrev pub every_read_from : (ℕ → List Ref → Bool) → Sum-F Bool → Bool
every_read_from test (part.Number x) = true
every_read_from test (part.Value function refs) = test function refs
every_read_from test (part.Minus x) = x
every_read_from test (part.Sub x y) = x && y
every_read_from test (part.Div x y) = x && y
every_read_from test (part.Add xs) = list_all (λ x. x) xs
every_read_from test (part.Mul xs) = list_all (λ x. x) xs

abbrev pub every_read : (ℕ → List Ref → Bool) → Sum → Bool
every_read test = fold-Sum Bool (every_read_from test)

-- the ground terms that an expression without parameters reads, in the order of its text
abbrev pub terms_from : Sum-F (List Term) → List Term
terms_from (part.Number x) = []
terms_from (part.Value function refs) = term_of [] function refs ∷ []
terms_from (part.Minus x) = x
terms_from (part.Sub x y) = x ++ y
terms_from (part.Div x y) = x ++ y
terms_from (part.Add xs) = flat_map (λ x. x) xs
terms_from (part.Mul xs) = flat_map (λ x. x) xs

abbrev pub terms_of : Sum → List Term
terms_of = fold-Sum (List Term) terms_from
