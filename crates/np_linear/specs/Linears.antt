-- Expressions as linear sums, or the first finding where one isn't. An expression is read from the left, and each part is taken in
-- before the next one is looked at: so the order says which finding is the first. This project's own.
use Rattle.std.specs.Prelude.{ℕ, pos, Bool, true, false, not, ◌&&◌, if◌then◌else◌, List, [], ◌∷◌, Option, Some, None, Result, Ok, Err}
use Rattle.std.specs.Option.{option_map_or}
use Rattle.np_frac.specs.Fractions.{Fraction, whole, plus, minus, times}
use Rattle.np_frac.specs.Checked.{plus_fits, minus_fits, times_fits, reciprocal, is_zero}
use Rattle.np_model.specs.declared.task.Term.{Term}
use Rattle.np_model.specs.declared.task.Signature.{Signature}
use Rattle.np_model.specs.declared.task.Sum.{Sum, Sum-F, fold-Sum}
use Rattle.np_model.specs.declared.task.Sum.TheOpen as part
use Rattle.np_model.specs.Ground.{term_of, same_term}
use Rattle.np_model.specs.States.{State, value_among}
use Rattle.np_model.specs.Tasks.{is_fixed}
use Rattle.np_linear.specs.declared.linear.Linear.{Linear}
use Rattle.np_linear.specs.declared.finding.Finding.{Finding}
use Rattle.np_linear.specs.declared.finding.Finding.TheVariants.{Missing, NotLinear, Wide}
use Rattle.np_linear.specs.Answers.{and_then}

-- ---- operations on fractions

abbrev pub zero : Fraction
zero = whole (pos 0)

-- the number, where the operation answers
abbrev pub fitting : Bool → Fraction → Result Fraction Finding
fitting true x = Ok x
fitting false x = Err Wide

-- the sum, or the difference where the flag is false
abbrev pub plus_or_minus : Bool → Fraction → Fraction → Fraction
plus_or_minus true x y = plus x y
plus_or_minus false x y = minus x y

abbrev pub checked_sum : Bool → Fraction → Fraction → Result Fraction Finding
checked_sum true x y = fitting (plus_fits x y) (plus x y)
checked_sum false x y = fitting (minus_fits x y) (minus x y)

-- the product, or the quotient where the flag is set
abbrev pub checked_product : Bool → Fraction → Fraction → Result Fraction Finding
checked_product false x y = fitting (times_fits x y) (times x y)
checked_product true x y = fitting (times_fits x (reciprocal y)) (times x (reciprocal y))

-- ---- linear sums

-- a term with its coefficient before others; a coefficient 0 vanishes, unless zeros are kept
abbrev pub with_term : Bool → Term → Fraction → List (Term × Fraction) → List (Term × Fraction)
with_term zeros t c xs = if not zeros && is_zero c then xs else (t, c) ∷ xs

-- a multiple of a term added to terms, or subtracted: to its coefficient where it is there, else as a new term after them
abbrev pub with_multiple : Bool → Bool → Term → Fraction → List (Term × Fraction) → Result (List (Term × Fraction)) Finding
with_multiple zeros up t c [] = and_then (checked_sum up zero c) (λ sum. Ok (with_term zeros t sum []))
with_multiple zeros up t c (x ∷ xs) =
    if same_term t x.0
    then and_then (checked_sum up x.1 c) (λ sum. Ok (with_term zeros t sum xs))
    else and_then (with_multiple zeros up t c xs) (λ ys. Ok (x ∷ ys))

-- several of them, in their order
abbrev pub with_multiples : Bool → List (Term × Fraction) → List (Term × Fraction) → Result (List (Term × Fraction)) Finding
with_multiples up xs [] = Ok xs
with_multiples up xs (y ∷ ys) = and_then (with_multiple false up y.0 y.1 xs) (λ zs. with_multiples up zs ys)

-- a constant alone
abbrev pub constant : Fraction → Linear
constant c = record { constant = c; terms = [] }

abbrev pub has_no_terms : List (Term × Fraction) → Bool
has_no_terms [] = true
has_no_terms (x ∷ xs) = false

abbrev pub is_constant : Linear → Bool
is_constant l = has_no_terms l.terms

-- the sum of two linear sums, or their difference: coefficient by coefficient, then the constant
unfoldable pub linear_sum : Bool → Linear → Linear → Result Linear Finding
linear_sum up l r =
    and_then (with_multiples up l.terms r.terms) (λ terms.
    and_then (checked_sum up l.constant r.constant) (λ c. Ok (record { constant = c; terms = terms })))

-- each coefficient times a number, or over it
abbrev pub terms_times : Bool → Fraction → List (Term × Fraction) → Result (List (Term × Fraction)) Finding
terms_times over by [] = Ok []
terms_times over by (x ∷ xs) =
    and_then (checked_product over x.1 by) (λ c. and_then (terms_times over by xs) (λ ys. Ok (with_term false x.0 c ys)))

-- a linear sum times a number, or over it
unfoldable pub linear_times : Bool → Fraction → Linear → Result Linear Finding
linear_times over by l =
    and_then (terms_times over by l.terms) (λ terms.
    and_then (checked_product over l.constant by) (λ c. Ok (record { constant = c; terms = terms })))

-- the product of two linear sums, one of which has to be constant
unfoldable pub linear_product : Linear → Linear → Result Linear Finding
linear_product l r =
    if is_constant l then linear_times false l.constant r
    else if is_constant r then linear_times false r.constant l
    else Err NotLinear

-- the quotient by a linear sum, which has to be constant and not 0
unfoldable pub linear_quotient : Linear → Linear → Result Linear Finding
linear_quotient l r =
    if is_constant r then (if is_zero r.constant then Err Missing else linear_times true r.constant l)
    else Err NotLinear

-- ---- expressions

-- a term that has a start value stands for that value where its function is static, else for itself
abbrev pub linear_of_term : Bool → Term → Option Fraction → Result Linear Finding
linear_of_term fixed t None = Err Missing
linear_of_term true t (Some v) = Ok (constant v)
linear_of_term false t (Some v) = Ok (record { constant = zero; terms = (t, whole (pos 1)) ∷ [] })

-- what a sum begins with, and a product where the flag is false; taking a first part into it is never too wide
abbrev pub begin : Bool → Linear
begin true = constant zero
begin false = constant (whole (pos 1))

-- one more part added to a sum, or multiplied with a product where the flag is false
abbrev pub with_part : Bool → Linear → Linear → Result Linear Finding
with_part true l r = linear_sum true l r
with_part false l r = linear_product l r

-- parts taken in from the left, each before the next is looked at
abbrev pub parts_from : Bool → Linear → List (Result Linear Finding) → Result Linear Finding
parts_from adds l [] = Ok l
parts_from adds l (x ∷ xs) = and_then x (λ r. and_then (with_part adds l r) (λ t. parts_from adds t xs))

-- an expression as a linear sum, from its parts
abbrev pub linear_from : List Signature → List (Term × Fraction) → List ℕ → Sum-F (Result Linear Finding) → Result Linear Finding
linear_from functions values objects (part.Number x) = Ok (constant x)
linear_from functions values objects (part.Value function refs) =
    linear_of_term (is_fixed functions function) (term_of objects function refs) (value_among values (term_of objects function refs))
linear_from functions values objects (part.Minus x) = and_then x (λ l. linear_sum false (constant zero) l)
linear_from functions values objects (part.Sub x y) = and_then x (λ l. and_then y (λ r. linear_sum false l r))
linear_from functions values objects (part.Div x y) = and_then x (λ l. and_then y (λ r. linear_quotient l r))
linear_from functions values objects (part.Add xs) = parts_from true (begin true) xs
linear_from functions values objects (part.Mul xs) = parts_from false (begin false) xs

-- an expression as a linear sum, where functions are declared so, terms have these values at the start, and the parameters stand for
-- these objects
abbrev pub linear_of : List Signature → List (Term × Fraction) → List ℕ → Sum → Result Linear Finding
linear_of functions values objects = fold-Sum (Result Linear Finding) (linear_from functions values objects)

-- ---- what a linear sum is worth

-- coefficient times value, added up, where terms have these values
abbrev pub terms_value : (Term → Fraction) → List (Term × Fraction) → Fraction
terms_value v [] = zero
terms_value v (x ∷ xs) = plus (times x.1 (v x.0)) (terms_value v xs)

abbrev pub linear_value : (Term → Fraction) → Linear → Fraction
linear_value v l = plus (terms_value v l.terms) l.constant

-- the value of a term in a state; 0 where it has none
abbrev pub value_in : State → Term → Fraction
value_in s t = option_map_or (λ x. x) (s.value t) zero
