-- A condition of a bound task holds in a state exactly where its subgoals hold in a flat state that stands for the state.
use Rattle.std.proofs.Common.{◌≡◌, ◌≢◌, arith, ℕ, ◌<◌, Bool, true, false, not, ◌&&◌, pos, ◌<ℤ◌, refl, sym, ◌∙◌, ap, ap₂, List, [], ◌∷◌, map}
use Rattle.std.specs.List.{AllByRecursion, list_any, list_all}
use Rattle.std.proofs.Math.Bool.{and-true}
use Rattle.std.proofs.lemmas.List.Elements.{All-from_recursion, recursion_from_All}
use Rattle.np_frac.specs.Fractions.{Fraction, whole, times, same_fraction}
use Rattle.np_frac.specs.Checked.{is_zero}
use Rattle.np_model.specs.declared.task.Atom as model
use Rattle.np_model.specs.declared.task.Term.{Term}
use Rattle.np_model.specs.Ground.{same_atom, same_term, same_atom-Decides, same_term-Decides}
use Rattle.np_model.specs.States.{State, is_among}
use Rattle.np_model.specs.Conditions.{with_sign}
use Rattle.np_linear.specs.declared.linear.Linear.{Linear}
use Rattle.np_linear.specs.Linears.{value_in}
use Rattle.np_bind.specs.declared.bound.BoundCond.{BoundCond}
use Rattle.np_bind.specs.declared.bound.BoundCond.TheVariants.{Atom, Compare, Never}
use Rattle.np_bind.specs.declared.bound.BoundParts.{BoundParts}
use Rattle.np_bind.specs.BoundTasks.{IsBound}
use Rattle.np_bind.specs.BoundPlans.{bound_holds}
use Rattle.np_flat.specs.declared.state.FlatState.{FlatState}
use Rattle.np_flat.specs.declared.parts.Subgoal.TheVariants as subgoal
use Rattle.np_flat.specs.States.{has, value_at, subgoal_holds}
use Rattle.np_scale.specs.Same.{StandsFor}
use Rattle.np_scale.specs.Tables.{number_of, conditions_of, facts_of, values_of}
use Rattle.np_scale.specs.Wholes.{unit_of, factor_of, whole_times}
use Rattle.np_scale.specs.Forms.{Inequality, inequalities_of, coefficients_of, factor_on, form_of, literal_of, subgoals_in}
use Rattle.np_scale.specs.FlatOf.{flat_of}
use Rattle.np_scale.proofs.Every.{each_weaker, each_both, each_map, each_unmap}
use Rattle.np_scale.proofs.Once.{number_names}
use Rattle.np_scale.proofs.InPlace.{each_ascending}
use Rattle.np_scale.proofs.Positive.{times_above, whole_above, other_from}
use Rattle.np_scale.proofs.Wholes.{unit_above}
use Rattle.np_scale.proofs.Factors.{factor_makes_whole}
use Rattle.np_scale.proofs.Readings.{IsFound, conditions_found, IsSide, sides_are, numbered}
use Rattle.np_scale.proofs.Forms.{on_number, on_number_of, side_holds, form_says}
use Rattle.np_scale.proofs.Comparisons.{sides_say}

-- a flat state has the facts and, scaled, the values of a state by their numbers in these tables
pub record HasByNumber (facts : List model.Atom) (terms : List Term) (unit : ℕ) (s : State) (f : FlatState) : Type 0 where
  pub has_facts : (a : model.Atom) → is_among facts a ≡ true → has f.facts (number_of same_atom facts a) ≡ s.has a
  pub has_values : (t : Term) → list_any (same_term t) terms ≡ true → whole (value_at f.values (number_of same_term terms t)) ≡ times (whole (pos unit)) (value_in s t)

pub stands_by_number : (bound : BoundParts) (s : State) (f : FlatState) → StandsFor (flat_of bound) s f → HasByNumber (facts_of bound) (values_of bound) (unit_of bound) s f
unfolding flat_of
stands_by_number bound s f h = record {
  has_facts = λ a there. h.facts (number_of same_atom (facts_of bound) a) a (number_names same_atom same_atom-Decides (facts_of bound) a there);
  has_values = λ t there. h.values (number_of same_term (values_of bound) t) t (number_names same_term same_term-Decides (values_of bound) t there);
}

-- ---- the factor of a side

-- a coefficient times the factor is whole
abbrev IsWholeBy : Fraction → Fraction → Type 0
IsWholeBy factor c = whole (whole_times factor c) ≡ times factor c

-- the factor is above 0, and makes coefficients whole
record Clears (factor : Fraction) (cs : List Fraction) : Type 0 where
  above : pos 0 <ℤ factor.num
  all : AllByRecursion (IsWholeBy factor) cs

from_den : (x : Fraction) → x.den ≡ 1 → whole x.num ≡ x
unfolding whole
from_den x e = same_fraction (whole x.num) x refl (sym e)

clears : (cs : List Fraction) → AllByRecursion (λ c. is_zero c ≡ false) cs → Clears (factor_of cs) cs
clears [] some = record { above = whole_above 1 (omega arith); all = tt }
clears (c ∷ cs) some =
    let are = factor_makes_whole c cs (All-from_recursion (λ d. d ≢ whole (pos 0)) (c ∷ cs) (each_weaker (λ d. is_zero d ≡ false) (λ d. d ≢ whole (pos 0)) other_from (c ∷ cs) some)) in
    record {
      above = are.positive;
      all =
          each_weaker (λ d. (times (factor_of (c ∷ cs)) d).den ≡ 1) (IsWholeBy (factor_of (c ∷ cs))) (λ d e. from_den (times (factor_of (c ∷ cs)) d) e) (c ∷ cs)
          (recursion_from_All (λ d. (times (factor_of (c ∷ cs)) d).den ≡ 1) (c ∷ cs) are.whole);
    }

-- of a side
side_clears : (terms : List Term) (l : Linear) → IsSide terms l → Clears (factor_on terms l) (map (λ c. c.1) (coefficients_of terms l))
side_clears terms l is =
    clears (map (λ (c : ℕ × Fraction). c.1) (coefficients_of terms l))
    (each_map (λ c. is_zero c ≡ false) (λ (c : ℕ × Fraction). c.1) (coefficients_of terms l)
    (each_ascending (λ c. is_zero c.1 ≡ false) (numbered terms l.terms) (each_map (λ (c : ℕ × Fraction). is_zero c.1 ≡ false) (λ t. (number_of same_term terms t.0, t.1)) l.terms is.some)))

-- ---- conditions

module _ (facts : List model.Atom) (terms : List Term) (unit : ℕ) (s : State) (f : FlatState) (above : 0 < unit) (stands : HasByNumber facts terms unit s f) where
  -- a form holds exactly where its side does
  form_agrees : (side : Inequality) → IsSide terms side.1 → side_holds (value_in s) side ≡ subgoal_holds f (subgoal.Form (form_of terms unit side))
  form_agrees side is =
      sym (form_says terms unit (value_in s) f.values side (times_above (factor_on terms side.1) (whole (pos unit)) (side_clears terms side.1 is).above (whole_above unit above)) is.there
      (each_both (λ c. IsWholeBy (factor_on terms side.1) c.1) (λ c. whole (value_at f.values c.0) ≡ times (whole (pos unit)) (on_number terms (value_in s) c.0)) (coefficients_of terms side.1)
      (each_unmap (IsWholeBy (factor_on terms side.1)) (λ (c : ℕ × Fraction). c.1) (coefficients_of terms side.1) (side_clears terms side.1 is).all)
      (each_ascending (λ c. whole (value_at f.values c.0) ≡ times (whole (pos unit)) (on_number terms (value_in s) c.0)) (numbered terms side.1.terms)
      (each_map (λ (c : ℕ × Fraction). whole (value_at f.values c.0) ≡ times (whole (pos unit)) (on_number terms (value_in s) c.0)) (λ t. (number_of same_term terms t.0, t.1)) side.1.terms
      (each_weaker (λ t. list_any (same_term t.0) terms ≡ true) (λ t. whole (value_at f.values (number_of same_term terms t.0)) ≡ times (whole (pos unit)) (on_number terms (value_in s) (number_of same_term terms t.0)))
      (λ t there. stands.has_values t.0 there ∙ ap (times (whole (pos unit))) (sym (on_number_of terms (value_in s) t.0 there))) side.1.terms is.there)))))

  forms_agree : (sides : List Inequality) → AllByRecursion (λ side. IsSide terms side.1) sides
      → list_all (side_holds (value_in s)) sides ≡ list_all (subgoal_holds f) (map (λ side. subgoal.Form (form_of terms unit side)) sides)
  forms_agree [] is = refl
  forms_agree (side ∷ sides) is = ap₂ (λ a b. a && b) (form_agrees side is.0) (forms_agree sides is.1)

  literal_agrees : (positive : Bool) (a : model.Atom) → is_among facts a ≡ true → with_sign positive (s.has a) ≡ (subgoal_holds f (literal_of facts positive a) && true)
  literal_agrees true a there = sym (and-true (s.has a)) ∙ ap (λ b. b && true) (sym (stands.has_facts a there))
  literal_agrees false a there = sym (and-true (not (s.has a))) ∙ ap (λ b. not b && true) (sym (stands.has_facts a there))

-- a condition of a bound task agrees with its subgoals
condition_agrees : (bound : BoundParts) (s : State) (f : FlatState) → HasByNumber (facts_of bound) (values_of bound) (unit_of bound) s f → (c : BoundCond) → IsFound bound c
    → bound_holds s c ≡ list_all (subgoal_holds f) (subgoals_in (facts_of bound) (values_of bound) (unit_of bound) c)
condition_agrees bound s f stands (Atom positive a) found = literal_agrees (facts_of bound) (values_of bound) (unit_of bound) s f (unit_above bound) stands positive a found.read.atoms.0
condition_agrees bound s f stands (Compare op l) found =
    sides_say (value_in s) op l ∙ forms_agree (facts_of bound) (values_of bound) (unit_of bound) s f (unit_above bound) stands (inequalities_of op l) (sides_are bound op l found)
condition_agrees bound s f stands Never found = refl

-- so do all conditions of a bound task, in a flat state that stands for a state
pub conditions_agree : (bound : BoundParts) → IsBound bound → (s : State) (f : FlatState) → StandsFor (flat_of bound) s f
    → AllByRecursion (λ c. bound_holds s c ≡ list_all (subgoal_holds f) (subgoals_in (facts_of bound) (values_of bound) (unit_of bound) c)) (conditions_of bound)
conditions_agree bound is s f h =
    each_weaker (IsFound bound) (λ c. bound_holds s c ≡ list_all (subgoal_holds f) (subgoals_in (facts_of bound) (values_of bound) (unit_of bound) c))
    (λ c found. condition_agrees bound s f (stands_by_number bound s f h) c found) (conditions_of bound) (conditions_found bound is)
