-- What every bound task keeps. This project's own.
use Rattle.std.specs.Prelude.{◌≢◌, ◌≤◌, pos, List, [], map, length, All, is_some, IsTrue}
use Rattle.np_frac.specs.Fractions.{Fraction, whole}
use Rattle.np_model.specs.declared.task.Term.{Term}
use Rattle.np_model.specs.States.{value_among}
use Rattle.np_model.specs.Tasks.{AreDistinct}
use Rattle.np_linear.specs.declared.linear.Linear.{Linear}
use Rattle.np_bind.specs.declared.limits.TheConstants.{MOST_STEPS}
use Rattle.np_bind.specs.declared.bound.BoundCond.{BoundCond}
use Rattle.np_bind.specs.declared.bound.BoundCond.TheVariants.{Atom, Compare, Never}
use Rattle.np_bind.specs.declared.bound.BoundStep.{BoundStep}
use Rattle.np_bind.specs.declared.bound.BoundParts.{BoundParts}

-- a term has a value at the start
abbrev pub HasValue : List (Term × Fraction) → Term → Type 0
HasValue values t = IsTrue (is_some (value_among values t))

-- distinct terms, each with a value at the start
pub record AreTerms (values : List (Term × Fraction)) (terms : List (Term × Fraction)) : Type 0 where
  pub distinct : AreDistinct (map (λ t. t.0) terms)
  pub there : All (λ t. HasValue values t.0) terms

-- a linear sum that isn't constant: at least one term, and no coefficient 0
pub record IsLinear (values : List (Term × Fraction)) (l : Linear) : Type 0 where
  pub some : l.terms ≢ []
  pub terms : AreTerms values l.terms
  pub coefficients : All (λ t. t.1 ≢ whole (pos 0)) l.terms

abbrev pub IsCondition : List (Term × Fraction) → BoundCond → Type 0
IsCondition values (Atom positive a) = Unit {0}
IsCondition values (Compare op l) = IsLinear values l
IsCondition values Never = Unit {0}

-- a kept step
pub record IsKept (values : List (Term × Fraction)) (b : BoundStep) : Type 0 where
  pub needs : All (IsCondition values) b.needs
  pub changes : AreTerms values b.changes

-- a bound task: no term has two values, and no two steps stand for one step of the task
pub record IsBound (bound : BoundParts) : Type 0 where
  pub values : AreDistinct (map (λ v. v.0) bound.values)
  pub few : length bound.steps ≤ MOST_STEPS
  pub once : AreDistinct (map (λ b. b.step) bound.steps)
  pub steps : All (IsKept bound.values) bound.steps
  pub goal : All (IsCondition bound.values) bound.goal
