-- Comparisons as whole forms that are to be at least 0. This project's own.
use Rattle.std.specs.Prelude.{ℕ, pos, negsuc, ℤ, ◌-ℤ◌, Bool, true, false, nat_lt, if◌then◌else◌, List, [], ◌∷◌, map}
use Rattle.np_frac.specs.Fractions.{Fraction, whole, times}
use Rattle.np_model.specs.declared.task.Op.{Op}
use Rattle.np_model.specs.declared.task.Op.TheVariants.{Less, Greater, AtMost, AtLeast, Equal}
use Rattle.np_model.specs.declared.task.Atom as model
use Rattle.np_model.specs.declared.task.Term.{Term}
use Rattle.np_model.specs.Ground.{same_atom, same_term}
use Rattle.np_model.specs.Values.{negated}
use Rattle.np_linear.specs.declared.linear.Linear.{Linear}
use Rattle.np_bind.specs.declared.bound.BoundCond.{BoundCond}
use Rattle.np_bind.specs.declared.bound.BoundCond.TheVariants.{Atom, Compare, Never}
use Rattle.np_flat.specs.declared.parts.Form.{Form}
use Rattle.np_flat.specs.declared.parts.Subgoal.{Subgoal}
use Rattle.np_flat.specs.declared.parts.Subgoal.TheVariants as subgoal
use Rattle.np_scale.specs.Tables.{number_of}
use Rattle.np_scale.specs.Wholes.{factor_of, whole_times, rounded_down, rounded_up}

-- a linear sum with each sign changed
abbrev pub negated_sum : Linear → Linear
negated_sum l = record { constant = negated l.constant; terms = map (λ t. (t.0, negated t.1)) l.terms }

-- that a linear sum is to be at least 0, or above 0 where the flag is set
abbrev pub Inequality : Type 0
Inequality = Bool × Linear

-- what a comparison with 0 comes to; equality to two, in this order
abbrev pub inequalities_of : Op → Linear → List Inequality
inequalities_of AtLeast l = (false, l) ∷ []
inequalities_of Greater l = (true, l) ∷ []
inequalities_of AtMost l = (false, negated_sum l) ∷ []
inequalities_of Less l = (true, negated_sum l) ∷ []
inequalities_of Equal l = (false, l) ∷ (false, negated_sum l) ∷ []

-- a pair in its place by number
abbrev pub in_place : {A : Type 0} → ℕ × A → List (ℕ × A) → List (ℕ × A)
in_place x [] = x ∷ []
in_place x (y ∷ ys) = if nat_lt x.0 y.0 then x ∷ y ∷ ys else y ∷ in_place x ys

-- pairs by ascending number
abbrev pub by_number : {A : Type 0} → List (ℕ × A) → List (ℕ × A)
by_number [] = []
by_number (x ∷ xs) = in_place x (by_number xs)

-- the coefficients of a linear sum by ascending number of their values
abbrev pub coefficients_of : List Term → Linear → List (ℕ × Fraction)
coefficients_of terms l = by_number (map (λ t. (number_of same_term terms t.0, t.1)) l.terms)

-- the factor of its form
abbrev pub factor_on : List Term → Linear → Fraction
factor_on terms l = factor_of (map (λ c. c.1) (coefficients_of terms l))

-- the constant in the form's proportion: times the unit, and then times the factor
abbrev pub exact_constant : List Term → ℕ → Linear → Fraction
exact_constant terms unit l = times (times l.constant (whole (pos unit))) (factor_on terms l)

-- rounded so that the form is at least 0 exactly where the linear sum is at least 0, or above it
abbrev pub constant_from : Bool → Fraction → ℤ
constant_from false e = rounded_down e
constant_from true e = rounded_up e -ℤ pos 1

-- the whole form
abbrev pub form_of : List Term → ℕ → Inequality → Form
form_of terms unit side = record {
  constant = constant_from side.0 (exact_constant terms unit side.1);
  terms = map (λ c. (c.0, whole_times (factor_on terms side.1) c.1)) (coefficients_of terms side.1);
}

-- the form that is never at least 0
abbrev pub never_form : Form
never_form = record { constant = negsuc 0; terms = [] }

-- an atom as a subgoal
abbrev pub literal_of : List model.Atom → Bool → model.Atom → Subgoal
literal_of facts true a = subgoal.Fact (number_of same_atom facts a)
literal_of facts false a = subgoal.NotFact (number_of same_atom facts a)

-- the subgoals that a condition comes to, where facts and values have these numbers
abbrev pub subgoals_in : List model.Atom → List Term → ℕ → BoundCond → List Subgoal
subgoals_in facts terms unit (Atom positive a) = literal_of facts positive a ∷ []
subgoals_in facts terms unit (Compare op l) = map (λ side. subgoal.Form (form_of terms unit side)) (inequalities_of op l)
subgoals_in facts terms unit Never = subgoal.Form never_form ∷ []
