-- An expression has the value of the linear sum that it is read as, and none where something is found missing.
use Rattle.std.specs.Prelude.{◌≡◌, ◌≢◌, ℕ, pos, true, List, map, Some, None, Ok, Err, is_some, IsTrue, All}
use Rattle.np_frac.specs.Fractions.{Fraction, whole}
use Rattle.np_model.specs.declared.task.Term.{Term}
use Rattle.np_model.specs.declared.task.Signature.{Signature}
use Rattle.np_model.specs.declared.task.Sum.{Sum}
use Rattle.np_model.specs.States.{State, value_among}
use Rattle.np_model.specs.Values.{value_of}
use Rattle.np_model.specs.Tasks.{AreDistinct, is_fixed}
use Rattle.np_linear.specs.declared.linear.Linear.{Linear}
use Rattle.np_linear.specs.declared.finding.Finding.TheVariants.{Missing}
use Rattle.np_linear.specs.Linears.{linear_of, linear_value, value_in}

-- a state that has the values which no step changes, and a value for exactly the terms that have one at the start
pub record KeepsStart (functions : List Signature) (values : List (Term × Fraction)) (s : State) : Type 0 where
  pub there : (t : Term) → is_some (s.value t) ≡ is_some (value_among values t)
  pub static : (t : Term) → is_fixed functions t.function ≡ true → s.value t ≡ value_among values t

-- an expression that is read as a linear sum has that sum's value in every such state
abbrev pub LinearMeans : Type 0
LinearMeans = (functions : List Signature) (values : List (Term × Fraction)) (objects : List ℕ) (sum : Sum) (l : Linear) (s : State)
    → KeepsStart functions values s → linear_of functions values objects sum ≡ Ok l → value_of objects s sum ≡ Some (linear_value (value_in s) l)

-- and one in which something is found missing has none
abbrev pub MissingMeans : Type 0
MissingMeans = (functions : List Signature) (values : List (Term × Fraction)) (objects : List ℕ) (sum : Sum) (s : State)
    → KeepsStart functions values s → linear_of functions values objects sum ≡ Err Missing → value_of objects s sum ≡ None

-- distinct terms, each with a value at the start, and no coefficient 0
pub record HasProperTerms (values : List (Term × Fraction)) (l : Linear) : Type 0 where
  pub distinct : AreDistinct (map (λ t. t.0) l.terms)
  pub there : All (λ t. IsTrue (is_some (value_among values t.0))) l.terms
  pub coefficients : All (λ t. t.1 ≢ whole (pos 0)) l.terms

-- what is read as a linear sum has such terms
abbrev pub LinearIsProper : Type 0
LinearIsProper = (functions : List Signature) (values : List (Term × Fraction)) (objects : List ℕ) (sum : Sum) (l : Linear)
    → linear_of functions values objects sum ≡ Ok l → HasProperTerms values l
