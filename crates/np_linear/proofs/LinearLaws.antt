-- The laws of linear sums, from what expressions are read as.
use Rattle.std.proofs.Common.{◌≡◌, refl, sym, ◌∙◌, ap, subst, List, Option, Some, None, true≢false}
use Rattle.std.specs.Prelude.{is_some}
use Rattle.std.specs.Option.{option_map_or}
use Rattle.np_frac.specs.Fractions.{Fraction}
use Rattle.np_model.specs.declared.task.Term.{Term}
use Rattle.np_model.specs.declared.task.Signature.{Signature}
use Rattle.np_model.specs.States.{State, value_among}
use Rattle.np_model.specs.Values.{value_of}
use Rattle.np_linear.specs.Linears.{zero, linear_of, value_in}
use Rattle.np_linear.specs.Laws.{KeepsStart, LinearMeans, MissingMeans, LinearIsProper}
use Rattle.np_linear.proofs.Distinct as distinct
use Rattle.np_linear.proofs.Distinct.{IsProper, HasStart, says_of, all_of_each, distinct_of_once, coefficients_of}
use Rattle.np_linear.proofs.Readings as readings
use Rattle.np_linear.proofs.Readings.{KeepsValues, Means}

-- an option that has something where another has nothing, or the other way round
none_too : {A : Type 0} (o p : Option A) → is_some o ≡ is_some p → p ≡ None → o ≡ None
none_too None p e none = refl
none_too (Some x) p e none = absurd (true≢false (e ∙ ap is_some none))

some_too : (o p : Option Fraction) (x : Fraction) → is_some o ≡ is_some p → p ≡ Some x → o ≡ Some (option_map_or (λ y. y) o zero)
some_too None p x e some = absurd (true≢false (sym (e ∙ ap is_some some)))
some_too (Some y) p x e some = refl

keeps_values : (functions : List Signature) (values : List (Term × Fraction)) (s : State) → KeepsStart functions values s → KeepsValues functions values s
keeps_values functions values s h = record {
  missing = λ t e. none_too (s.value t) (value_among values t) (h.there t) e;
  there = λ t x e. some_too (s.value t) (value_among values t) x (h.there t) e;
  static = λ t x fixed e. h.static t fixed ∙ e;
}

pub linear_means : LinearMeans
linear_means functions values objects sum l s h e =
    subst (Means (value_in s) (value_of objects s sum)) e (readings.linear_means functions values objects s (keeps_values functions values s h) sum)

pub missing_means : MissingMeans
missing_means functions values objects sum s h e =
    subst (Means (value_in s) (value_of objects s sum)) e (readings.linear_means functions values objects s (keeps_values functions values s h) sum)

pub linear_is_proper : LinearIsProper
linear_is_proper functions values objects sum l e = record {
  distinct = distinct_of_once l.terms proper.1.0;
  there = all_of_each (HasStart values) l.terms proper.0;
  coefficients = coefficients_of l.terms proper.1.1;
}
  where
    proper : IsProper (HasStart values) l
    proper = says_of (IsProper (HasStart values)) (linear_of functions values objects sum) l e (distinct.linear_is_proper functions values objects sum)
