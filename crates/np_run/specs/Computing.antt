-- How an expression and conditions are computed. Here the order is part of the meaning, since it says which operation on
-- fractions is the first that doesn't answer: each part is computed and taken in before the next one is looked at, from
-- the left, and what comes after a part without a value isn't computed. The order is this project's own.
use Rattle.std.specs.Prelude.{ℕ, pos, Bool, true, false, ◌==◌, if◌then◌else◌, List, [], ◌∷◌, Option, Some, None, Result, Ok, Err}
use Rattle.np_frac.specs.Fractions.{Fraction, whole, plus, minus, times}
use Rattle.np_frac.specs.Checked.{plus_fits, minus_fits, times_fits, reciprocal, is_zero}
use Rattle.np_model.specs.declared.task.Op.{Op}
use Rattle.np_model.specs.declared.task.Sum.{Sum, Sum-F, fold-Sum}
use Rattle.np_model.specs.declared.task.Sum.TheOpen as part
use Rattle.np_model.specs.declared.task.Cond.{Cond}
use Rattle.np_model.specs.declared.task.Cond.TheVariants.{Atom, Same, Compare}
use Rattle.np_model.specs.Ground.{object_of, atom_of, term_of}
use Rattle.np_model.specs.States.{State}
use Rattle.np_model.specs.Conditions.{compares, with_sign}
use Rattle.np_run.specs.declared.halt.Lack.{Lack}
use Rattle.np_run.specs.declared.halt.Lack.TheVariants.{Missing, Wide}

-- ---- what stops a computation

-- what comes next, unless a cause has stopped it
abbrev pub and_then : {A B C : Type 0} → Result A C → (A → Result B C) → Result B C
and_then (Ok x) f = f x
and_then (Err e) f = Err e

-- ---- operations on fractions

-- the number, where the operation answers
abbrev pub fitting : Bool → Fraction → Result Fraction Lack
fitting true x = Ok x
fitting false x = Err Wide

-- the sum, the difference and the product
abbrev pub added : Fraction → Fraction → Result Fraction Lack
added x y = fitting (plus_fits x y) (plus x y)

abbrev pub subtracted : Fraction → Fraction → Result Fraction Lack
subtracted x y = fitting (minus_fits x y) (minus x y)

abbrev pub multiplied : Fraction → Fraction → Result Fraction Lack
multiplied x y = fitting (times_fits x y) (times x y)

-- the quotient; a quotient by 0 has no value, which isn't wide
abbrev pub divided : Fraction → Fraction → Result Fraction Lack
divided x y = if is_zero y then Err Missing else fitting (times_fits x (reciprocal y)) (times x (reciprocal y))

-- ---- expressions

abbrev pub zero : Fraction
zero = whole (pos 0)

abbrev pub one : Fraction
one = whole (pos 1)

-- a value, where it is there
abbrev pub found : Option Fraction → Result Fraction Lack
found None = Err Missing
found (Some x) = Ok x

-- one more part is added to a sum, or multiplied with a product where the flag is false
abbrev pub taken_in : Bool → Fraction → Fraction → Result Fraction Lack
taken_in true x y = added x y
taken_in false x y = multiplied x y

-- what a sum begins with, and a product where the flag is false; to take a first part in to it is never wide
abbrev pub begin : Bool → Fraction
begin true = zero
begin false = one

-- parts taken in from the left, each before the next is looked at
abbrev pub parts_from : Bool → Fraction → List (Result Fraction Lack) → Result Fraction Lack
parts_from adds total [] = Ok total
parts_from adds total (x ∷ xs) = and_then x (λ v. and_then (taken_in adds total v) (λ t. parts_from adds t xs))

-- the value of an expression, from those of its parts, which are looked at from the left
abbrev pub computed_from : List ℕ → State → Sum-F (Result Fraction Lack) → Result Fraction Lack
computed_from objects s (part.Number x) = Ok x
computed_from objects s (part.Value function refs) = found (s.value (term_of objects function refs))
computed_from objects s (part.Minus x) = and_then x (λ v. subtracted zero v)
computed_from objects s (part.Sub x y) = and_then x (λ v. and_then y (λ w. subtracted v w))
computed_from objects s (part.Div x y) = and_then x (λ v. and_then y (λ w. divided v w))
computed_from objects s (part.Add xs) = parts_from true (begin true) xs
computed_from objects s (part.Mul xs) = parts_from false (begin false) xs

-- the value of an expression as it is computed in a state, where the parameters stand for these objects
abbrev pub computed_value : List ℕ → State → Sum → Result Fraction Lack
computed_value objects s = fold-Sum (Result Fraction Lack) (computed_from objects s)

-- ---- conditions

-- whether two expressions compare so, the left one being computed first
abbrev pub compared : Op → Result Fraction Lack → Result Fraction Lack → Result Bool Lack
compared op x y = and_then x (λ v. and_then y (λ w. Ok (compares op v w)))

-- a comparison with a side without a value doesn't hold
abbrev pub or_no : Result Bool Lack → Result Bool Lack
or_no (Ok b) = Ok b
or_no (Err Missing) = Ok false
or_no (Err Wide) = Err Wide

-- whether a condition holds
abbrev pub computed_holds : List ℕ → State → Cond → Result Bool Lack
computed_holds objects s (Atom positive predicate refs) = Ok (with_sign positive (s.has (atom_of objects predicate refs)))
computed_holds objects s (Same positive a b) = Ok (with_sign positive (object_of objects a == object_of objects b))
computed_holds objects s (Compare op x y) = or_no (compared op (computed_value objects s x) (computed_value objects s y))

-- whether all of the conditions hold; after one that doesn't, none is looked at
abbrev pub computed_all_hold : List ℕ → State → List Cond → Result Bool Lack
computed_all_hold objects s [] = Ok true
computed_all_hold objects s (c ∷ cs) =
    and_then (computed_holds objects s c) (λ yes. if yes then computed_all_hold objects s cs else Ok false)
