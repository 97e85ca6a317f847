-- The flat task of a bound task within all limits keeps what every flat task keeps.
use Rattle.std.proofs.Common.{◌≡◌, ◌≢◌, ℕ, suc, ◌+◌, ◌≤◌, ◌<◌, Bool, true, false, not, ◌||◌, ◌==◌, ℤ, pos, unsigned_abs, ◌<ℤ◌, ◌^◌, refl, sym, ◌∙◌, ap, subst, arith, List, [], ◌∷◌, map, length, filter, All, Contains, eq-eqb}
use Rattle.std.specs.Prelude.{if◌then◌else◌}
use Rattle.std.specs.List.{list_any, AllByRecursion}
use Rattle.std.proofs.Math.Bool.{or-false}
use Rattle.std.proofs.lemmas.Int.{ints}
use Rattle.std.proofs.lemmas.Bool.{false≢true, both_ways, and_parts, ltb-true, not-true, eqb-true, or_left, or_right}
use Rattle.std.proofs.lemmas.List.{length-map}
use Rattle.std.proofs.lemmas.List.Folds.{list_any_at}
use Rattle.std.proofs.lemmas.List.Elements.{All-nil, All-filter, All-from_recursion, recursion_from_All, filter_passes}
use Rattle.np_frac.specs.Fractions.{Fraction, times}
use Rattle.np_frac.specs.Checked.{is_zero}
use Rattle.np_model.specs.declared.task.Atom as model
use Rattle.np_model.specs.declared.task.Term.{Term}
use Rattle.np_model.specs.declared.task.Step.{Step}
use Rattle.np_model.specs.Ground.{same_atom, same_term, same_atom-Decides, same_term-Decides}
use Rattle.np_model.specs.States.{is_among}
use Rattle.np_model.specs.Tasks.{AreDistinct}
use Rattle.np_model.proofs.Distinct.{distinct_none}
use Rattle.np_linear.specs.declared.linear.Linear.{Linear}
use Rattle.np_bind.specs.declared.bound.BoundCond.{BoundCond}
use Rattle.np_bind.specs.declared.bound.BoundCond.TheVariants.{Atom, Compare, Never}
use Rattle.np_bind.specs.declared.bound.BoundStep.{BoundStep}
use Rattle.np_bind.specs.declared.bound.BoundParts.{BoundParts}
use Rattle.np_bind.specs.BoundTasks.{IsBound}
use Rattle.np_bind.specs.Grounding.{number_on}
use Rattle.np_flat.specs.declared.limits.TheConstants.{MOST_SUBGOALS, CHANGE_SIZE, COEFFICIENT_SIZE, CONSTANT_SIZE}
use Rattle.np_flat.specs.declared.parts.Parts.{Parts}
use Rattle.np_flat.specs.declared.parts.FlatStep.{FlatStep}
use Rattle.np_flat.specs.declared.parts.Subgoal.{Subgoal}
use Rattle.np_flat.specs.declared.parts.Subgoal.TheVariants as subgoal
use Rattle.np_flat.specs.Flats.{AreNumbers, AreAmounts, IsForm, IsSubgoal, IsStep, IsFlat}
use Rattle.np_flat.specs.States.{has, put_all}
use Rattle.np_flat.proofs.Ascending.{ascending_nil, ascending_put_all, All-put_all, has_put_all}
use Rattle.np_scale.specs.Tables.{number_of, conditions_of, facts_of, values_of}
use Rattle.np_scale.specs.Wholes.{unit_of, scaled_number, factor_of, whole_times}
use Rattle.np_scale.specs.Forms.{Inequality, inequalities_of, factor_on, form_of, never_form, literal_of, subgoals_in, coefficients_of}
use Rattle.np_scale.specs.FlatOf.{FlatTables, same_subgoal, all_subgoals, numbers_of, subgoal_numbers, fact_numbers, changes_from, flat_step, flat_of}
use Rattle.np_scale.specs.Limits.{is_below, is_small_form}
use Rattle.np_scale.specs.Laws.{FlatIsFlat}
use Rattle.np_scale.proofs.Every.{each_weaker, each_both, each_map, each_append, each_passes, each_flat, each_flat_from}
use Rattle.np_scale.proofs.Once.{number_within, same_number, once_distinct, once_all}
use Rattle.np_scale.proofs.InPlace.{Rising, each_ascending, rising_ascending, rising_map, numbers_of_rising}
use Rattle.np_scale.proofs.Positive.{some_num, times_some, above_some, whole_above}
use Rattle.np_scale.proofs.Wholes.{scaled_some, unit_above}
use Rattle.np_scale.proofs.Factors.{factor_above}
use Rattle.np_scale.proofs.SameSubgoals.{same_subgoal-Decides}
use Rattle.np_scale.proofs.Limits.{IsSmall, IsFitting, IsWithin, scaled_task}
use Rattle.np_scale.proofs.Readings.{IsFound, AreNumbered, conditions_found, conditions_numbered, of_steps, of_goal, IsSide, sides_are, numbered, numbers_apart}

-- ---- forms

some_factor : (cs : List Fraction) → AllByRecursion (λ c. is_zero c ≡ false) cs → is_zero (factor_of cs) ≡ false
some_factor [] some = above_some (factor_of []) (whole_above 1 (omega arith))
some_factor (c ∷ cs) some = above_some (factor_of (c ∷ cs)) (factor_above c cs some.0)

-- the factor of a side isn't 0
pub factor_some : (terms : List Term) (l : Linear) → IsSide terms l → is_zero (factor_on terms l) ≡ false
factor_some terms l is =
    some_factor (map (λ c. c.1) (coefficients_of terms l))
    (each_map (λ c. is_zero c ≡ false) (λ (c : ℕ × Fraction). c.1) (coefficients_of terms l)
    (each_ascending (λ c. is_zero c.1 ≡ false) (numbered terms l.terms) (each_map (λ (c : ℕ × Fraction). is_zero c.1 ≡ false) (λ t. (number_of same_term terms t.0, t.1)) l.terms is.some)))

-- the numbers and coefficients of a form
amounts_of : (terms : List Term) (unit : ℕ) (side : Inequality) → IsSide terms side.1 → is_small_form (form_of terms unit side) ≡ true → AreAmounts (length terms) COEFFICIENT_SIZE (form_of terms unit side).terms
amounts_of terms unit side is small = record {
  numbers =
      numbers_of_rising (length terms) (form_of terms unit side).terms
      (rising_map (λ c. whole_times (factor_on terms side.1) c.1) (coefficients_of terms side.1) (rising_ascending (numbered terms side.1.terms) (numbers_apart terms side.1.terms is.distinct is.there)))
      (each_map (λ (c : ℕ × ℤ). c.0 < length terms) (λ c. (c.0, whole_times (factor_on terms side.1) c.1)) (coefficients_of terms side.1)
      (each_ascending (λ c. c.0 < length terms) (numbered terms side.1.terms)
      (each_map (λ (c : ℕ × Fraction). c.0 < length terms) (λ t. (number_of same_term terms t.0, t.1)) side.1.terms
      (each_weaker (λ t. list_any (same_term t.0) terms ≡ true) (λ t. number_of same_term terms t.0 < length terms) (λ t e. number_within same_term same_term-Decides terms t.0 e) side.1.terms is.there))));
  some =
      All-from_recursion (λ (c : ℕ × ℤ). c.1 ≢ pos 0) (form_of terms unit side).terms
      (each_map (λ (c : ℕ × ℤ). c.1 ≢ pos 0) (λ c. (c.0, whole_times (factor_on terms side.1) c.1)) (coefficients_of terms side.1)
      (each_weaker (λ c. is_zero c.1 ≡ false) (λ c. whole_times (factor_on terms side.1) c.1 ≢ pos 0) (λ c e. some_num (times (factor_on terms side.1) c.1) (times_some (factor_on terms side.1) c.1 (factor_some terms side.1 is) e)) (coefficients_of terms side.1)
      (each_ascending (λ c. is_zero c.1 ≡ false) (numbered terms side.1.terms)
      (each_map (λ (c : ℕ × Fraction). is_zero c.1 ≡ false) (λ t. (number_of same_term terms t.0, t.1)) side.1.terms is.some))));
  small =
      All-from_recursion (λ n. unsigned_abs n < COEFFICIENT_SIZE) (map (λ (c : ℕ × ℤ). c.1) (form_of terms unit side).terms)
      (each_map (λ n. unsigned_abs n < COEFFICIENT_SIZE) (λ (c : ℕ × ℤ). c.1) (form_of terms unit side).terms
      (each_weaker (λ (c : ℕ × ℤ). is_below COEFFICIENT_SIZE c.1 ≡ true) (λ c. unsigned_abs c.1 < COEFFICIENT_SIZE) (λ c e. ltb-true (unsigned_abs c.1) COEFFICIENT_SIZE e) (form_of terms unit side).terms
      (each_passes (λ (c : ℕ × ℤ). is_below COEFFICIENT_SIZE c.1) (form_of terms unit side).terms
      (and_parts (is_below CONSTANT_SIZE (form_of terms unit side).constant) _ small).1)));
}

form_is : (terms : List Term) (unit : ℕ) (side : Inequality) → IsSide terms side.1 → IsSmall (subgoal.Form (form_of terms unit side)) → IsForm (length terms) (form_of terms unit side)
form_is terms unit side is small = record {
  constant = ltb-true (unsigned_abs (form_of terms unit side).constant) CONSTANT_SIZE (and_parts (is_below CONSTANT_SIZE (form_of terms unit side).constant) _ small.1).0;
  few = small.0;
  terms = amounts_of terms unit side is small.1;
}

never_is : (limit : ℕ) → IsForm limit never_form
never_is limit = record {
  constant = omega arith;
  few = omega arith;
  terms = record {
    numbers = numbers_of_rising {A = ℤ} limit [] tt tt;
    some = All-nil (λ (c : ℕ × ℤ). c.1 ≢ pos 0);
    small = All-nil (λ n. unsigned_abs n < COEFFICIENT_SIZE);
  };
}

-- ---- subgoals

forms_are : (facts : ℕ) (terms : List Term) (unit : ℕ) (sides : List Inequality) → AllByRecursion (λ side. IsSide terms side.1) sides
    → AllByRecursion IsSmall (map (λ side. subgoal.Form (form_of terms unit side)) sides) → AllByRecursion (IsSubgoal facts (length terms)) (map (λ side. subgoal.Form (form_of terms unit side)) sides)
forms_are facts terms unit [] is small = tt
forms_are facts terms unit (side ∷ sides) is small = (form_is terms unit side is.0 small.0, forms_are facts terms unit sides is.1 small.1)

literal_is : (facts : List model.Atom) (values : ℕ) (positive : Bool) (a : model.Atom) → is_among facts a ≡ true → IsSubgoal (length facts) values (literal_of facts positive a)
literal_is facts values true a there = number_within same_atom same_atom-Decides facts a there
literal_is facts values false a there = number_within same_atom same_atom-Decides facts a there

subgoals_of : (bound : BoundParts) (c : BoundCond) → IsFound bound c → AllByRecursion IsSmall (subgoals_in (facts_of bound) (values_of bound) (unit_of bound) c)
    → AllByRecursion (IsSubgoal (length (facts_of bound)) (length (values_of bound))) (subgoals_in (facts_of bound) (values_of bound) (unit_of bound) c)
subgoals_of bound (Atom positive a) found small = (literal_is (facts_of bound) (length (values_of bound)) positive a found.read.atoms.0, tt)
subgoals_of bound (Compare op l) found small = forms_are (length (facts_of bound)) (values_of bound) (unit_of bound) (inequalities_of op l) (sides_are bound op l found) small
subgoals_of bound Never found small = (never_is (length (values_of bound)), tt)

-- the subgoals of all conditions are small
abbrev HasSmallSubgoals : BoundParts → BoundCond → Type 0
HasSmallSubgoals bound c = AllByRecursion IsSmall (subgoals_in (facts_of bound) (values_of bound) (unit_of bound) c)

all_small : (bound : BoundParts) (known : List Subgoal) → IsWithin bound known → AllByRecursion (HasSmallSubgoals bound) (conditions_of bound)
all_small bound known within =
    each_append (HasSmallSubgoals bound) _ bound.goal
    (each_flat_from (HasSmallSubgoals bound) (λ b. b.needs) bound.steps
    (each_weaker (IsFitting (facts_of bound) (values_of bound) (unit_of bound)) (λ b. AllByRecursion (HasSmallSubgoals bound) b.needs)
    (λ b fits. each_flat IsSmall (subgoals_in (facts_of bound) (values_of bound) (unit_of bound)) b.needs fits.needs) bound.steps within.steps))
    (each_flat IsSmall (subgoals_in (facts_of bound) (values_of bound) (unit_of bound)) bound.goal within.goal)

all_subgoals_are : (bound : BoundParts) (known : List Subgoal) → IsBound bound → IsWithin bound known
    → AllByRecursion (IsSubgoal (length (facts_of bound)) (length (values_of bound))) (all_subgoals (facts_of bound) (values_of bound) (unit_of bound) (conditions_of bound))
all_subgoals_are bound known is within =
    each_flat_from (IsSubgoal (length (facts_of bound)) (length (values_of bound))) (subgoals_in (facts_of bound) (values_of bound) (unit_of bound)) (conditions_of bound)
    (each_weaker (λ c. IsFound bound c × HasSmallSubgoals bound c) (λ c. AllByRecursion (IsSubgoal (length (facts_of bound)) (length (values_of bound))) (subgoals_in (facts_of bound) (values_of bound) (unit_of bound) c))
    (λ c both. subgoals_of bound c both.0 both.1) (conditions_of bound)
    (each_both (IsFound bound) (HasSmallSubgoals bound) (conditions_of bound) (conditions_found bound is) (all_small bound known within)))

-- ---- numbers in ascending order

-- numbers put in their places are ascending
pub numbers_put : (limit : ℕ) (ns : List ℕ) → AllByRecursion (λ n. n < limit) ns → AreNumbers limit (put_all ns [])
numbers_put limit ns below = record {
  ascending = ascending_put_all ns [] ascending_nil;
  within = All-put_all (λ n. n < limit) ns [] (All-from_recursion (λ n. n < limit) ns below) (All-nil (λ n. n < limit));
}

-- the numbers of facts
pub facts_are : (n : FlatTables) (atoms : List model.Atom) → AreNumbers (length n.facts) (fact_numbers n atoms)
facts_are n atoms =
    numbers_put (length n.facts) (map (number_of same_atom n.facts) (filter (is_among n.facts) atoms))
    (each_map (λ p. p < length n.facts) (number_of same_atom n.facts) (filter (is_among n.facts) atoms)
    (each_weaker (λ a. is_among n.facts a ≡ true) (λ a. number_of same_atom n.facts a < length n.facts) (λ a e. number_within same_atom same_atom-Decides n.facts a e) (filter (is_among n.facts) atoms)
    (recursion_from_All (λ a. is_among n.facts a ≡ true) (filter (is_among n.facts) atoms) (filter_passes (is_among n.facts) atoms))))

-- the numbers of the subgoals of conditions
pub subgoals_put : (bound : BoundParts) (cs : List BoundCond) → AllByRecursion (AreNumbered bound) cs → AreNumbers (length (numbers_of bound).subgoals) (subgoal_numbers (numbers_of bound) cs)
subgoals_put bound cs there =
    numbers_put (length (numbers_of bound).subgoals) (map (number_of same_subgoal (numbers_of bound).subgoals) (all_subgoals (facts_of bound) (values_of bound) (unit_of bound) cs))
    (each_map (λ q. q < length (numbers_of bound).subgoals) (number_of same_subgoal (numbers_of bound).subgoals) (all_subgoals (facts_of bound) (values_of bound) (unit_of bound) cs)
    (each_weaker (λ q. list_any (same_subgoal q) (numbers_of bound).subgoals ≡ true) (λ q. number_of same_subgoal (numbers_of bound).subgoals q < length (numbers_of bound).subgoals)
    (λ q e. number_within same_subgoal same_subgoal-Decides (numbers_of bound).subgoals q e) (all_subgoals (facts_of bound) (values_of bound) (unit_of bound) cs)
    (each_flat_from (λ q. list_any (same_subgoal q) (numbers_of bound).subgoals ≡ true) (subgoals_in (facts_of bound) (values_of bound) (unit_of bound)) cs there)))

-- the number of a fact is among those of atoms where the fact is among the atoms
pub number_back : (facts atoms : List model.Atom) (a : model.Atom) → is_among facts a ≡ true → has (map (number_of same_atom facts) (filter (is_among facts) atoms)) (number_of same_atom facts a) ≡ true → is_among atoms a ≡ true
number_back facts [] a there e = absurd (false≢true e)
number_back facts (b ∷ atoms) a there e =
    by (is_among facts b) refl (number_of same_atom facts b == number_of same_atom facts a) refl e (number_back facts atoms a there)
  where
    by : (known : Bool) → is_among facts b ≡ known → (same : Bool) → (number_of same_atom facts b == number_of same_atom facts a) ≡ same
        → has (map (number_of same_atom facts) (if known then b ∷ filter (is_among facts) atoms else filter (is_among facts) atoms)) (number_of same_atom facts a) ≡ true
        → (has (map (number_of same_atom facts) (filter (is_among facts) atoms)) (number_of same_atom facts a) ≡ true → is_among atoms a ≡ true)
        → (same_atom a b || is_among atoms a) ≡ true
    by false new same is here later = or_right (same_atom a b) (is_among atoms a) (later here)
    by true known true is here later =
        or_left (same_atom a b) (is_among atoms a) ((same_atom-Decides a b).1 (sym (same_number same_atom same_atom-Decides facts b a known there (eqb-true _ _ is))))
    by true known false is here later = or_right (same_atom a b) (is_among atoms a) (later (rest (number_of same_atom facts b == number_of same_atom facts a) is here))
      where
        rest : (c : Bool) → c ≡ false → (c || has (map (number_of same_atom facts) (filter (is_among facts) atoms)) (number_of same_atom facts a)) ≡ true
            → has (map (number_of same_atom facts) (filter (is_among facts) atoms)) (number_of same_atom facts a) ≡ true
        rest true e h = absurd (false≢true (sym e))
        rest false e h = h

-- what is added isn't deleted
apart_from : (n : FlatTables) (adds deletes : List model.Atom) → All (λ p. Contains (fact_numbers n adds) p → ⊥) (fact_numbers n (filter (λ a. not (is_among adds a)) deletes))
apart_from n adds deletes =
    All-put_all (λ p. Contains (fact_numbers n adds) p → ⊥) (map (number_of same_atom n.facts) (filter (is_among n.facts) (filter (λ a. not (is_among adds a)) deletes))) []
    (All-from_recursion (λ p. Contains (fact_numbers n adds) p → ⊥) (map (number_of same_atom n.facts) (filter (is_among n.facts) (filter (λ a. not (is_among adds a)) deletes)))
    (each_map (λ p. Contains (fact_numbers n adds) p → ⊥) (number_of same_atom n.facts) (filter (is_among n.facts) (filter (λ a. not (is_among adds a)) deletes))
    (each_weaker (λ a. (is_among n.facts a ≡ true) × (not (is_among adds a) ≡ true)) (λ a. Contains (fact_numbers n adds) (number_of same_atom n.facts a) → ⊥)
    (λ a e inside. both_ways (is_among adds a) (not-true (is_among adds a) e.1) (number_back n.facts adds a e.0 (found a inside)))
    (filter (is_among n.facts) (filter (λ a. not (is_among adds a)) deletes)) kept)))
    (All-nil (λ p. Contains (fact_numbers n adds) p → ⊥))
  where
    kept : AllByRecursion (λ a. (is_among n.facts a ≡ true) × (not (is_among adds a) ≡ true)) (filter (is_among n.facts) (filter (λ a. not (is_among adds a)) deletes))
    kept =
        each_both (λ a. is_among n.facts a ≡ true) (λ a. not (is_among adds a) ≡ true) (filter (is_among n.facts) (filter (λ a. not (is_among adds a)) deletes))
        (recursion_from_All (λ a. is_among n.facts a ≡ true) (filter (is_among n.facts) (filter (λ a. not (is_among adds a)) deletes)) (filter_passes (is_among n.facts) (filter (λ a. not (is_among adds a)) deletes)))
        (recursion_from_All (λ a. not (is_among adds a) ≡ true) (filter (is_among n.facts) (filter (λ a. not (is_among adds a)) deletes))
        (All-filter (is_among n.facts) (λ a. not (is_among adds a) ≡ true) (filter (λ a. not (is_among adds a)) deletes) (filter_passes (λ a. not (is_among adds a)) deletes)))

    found : (a : model.Atom) → Contains (fact_numbers n adds) (number_of same_atom n.facts a) → has (map (number_of same_atom n.facts) (filter (is_among n.facts) adds)) (number_of same_atom n.facts a) ≡ true
    found a inside =
        sym (or-false _) ∙ (sym (has_put_all (map (number_of same_atom n.facts) (filter (is_among n.facts) adds)) [] (number_of same_atom n.facts a))
        ∙ list_any_at (λ m. m == number_of same_atom n.facts a) (fact_numbers n adds) inside.0 (number_of same_atom n.facts a) inside.1 (eq-eqb _ _ inside.2))

-- ---- changes

changes_above : (unit k : ℕ) (changes : List (Term × Fraction)) (ts : List Term) → AllByRecursion (λ c. k ≤ c.0) (changes_from unit k changes ts)
changes_above unit k changes [] = tt
changes_above unit k changes (t ∷ ts) =
    by (is_zero (number_on changes t)) (each_weaker (λ (c : ℕ × ℤ). suc k ≤ c.0) (λ c. k ≤ c.0) (λ c h. less c.0 h) (changes_from unit (suc k) changes ts) (changes_above unit (suc k) changes ts))
  where
    less : (m : ℕ) → suc k ≤ m → k ≤ m
    less m h = omega arith

    itself : k ≤ k
    itself = omega arith

    by : (b : Bool) → AllByRecursion (λ (c : ℕ × ℤ). k ≤ c.0) (changes_from unit (suc k) changes ts)
        → AllByRecursion (λ (c : ℕ × ℤ). k ≤ c.0) (if b then changes_from unit (suc k) changes ts else ((k, scaled_number unit (number_on changes t)) ∷ changes_from unit (suc k) changes ts))
    by true rest = rest
    by false rest = (itself, rest)

changes_rise : (unit k : ℕ) (changes : List (Term × Fraction)) (ts : List Term) → Rising (changes_from unit k changes ts)
changes_rise unit k changes [] = tt
changes_rise unit k changes (t ∷ ts) = by (is_zero (number_on changes t)) (changes_rise unit (suc k) changes ts)
  where
    by : (b : Bool) → Rising (changes_from unit (suc k) changes ts)
        → Rising (if b then changes_from unit (suc k) changes ts else ((k, scaled_number unit (number_on changes t)) ∷ changes_from unit (suc k) changes ts))
    by true rest = rest
    by false rest = (changes_above unit (suc k) changes ts, rest)

changes_below : (unit k limit : ℕ) (changes : List (Term × Fraction)) (ts : List Term) → k + length ts ≤ limit → AllByRecursion (λ c. c.0 < limit) (changes_from unit k changes ts)
changes_below unit k limit changes [] h = tt
changes_below unit k limit changes (t ∷ ts) h = by (is_zero (number_on changes t)) (changes_below unit (suc k) limit changes ts (omega arith))
  where
    here : k < limit
    here = omega arith

    by : (b : Bool) → AllByRecursion (λ (c : ℕ × ℤ). c.0 < limit) (changes_from unit (suc k) changes ts)
        → AllByRecursion (λ (c : ℕ × ℤ). c.0 < limit) (if b then changes_from unit (suc k) changes ts else ((k, scaled_number unit (number_on changes t)) ∷ changes_from unit (suc k) changes ts))
    by true rest = rest
    by false rest = (here, rest)

-- what holds of each scaled change that isn't 0
each_change : (P : ℤ → Type 0) (unit k : ℕ) (changes : List (Term × Fraction)) (ts : List Term)
    → AllByRecursion (λ t. is_zero (number_on changes t) ≡ false → P (scaled_number unit (number_on changes t))) ts → AllByRecursion (λ c. P c.1) (changes_from unit k changes ts)
each_change P unit k changes [] all = tt
each_change P unit k changes (t ∷ ts) all = by (is_zero (number_on changes t)) refl (each_change P unit (suc k) changes ts all.1)
  where
    by : (b : Bool) → is_zero (number_on changes t) ≡ b → AllByRecursion (λ (c : ℕ × ℤ). P c.1) (changes_from unit (suc k) changes ts)
        → AllByRecursion (λ (c : ℕ × ℤ). P c.1) (if b then changes_from unit (suc k) changes ts else ((k, scaled_number unit (number_on changes t)) ∷ changes_from unit (suc k) changes ts))
    by true none rest = rest
    by false some rest = (all.0 some, rest)

some_changes : (unit : ℕ) → 0 < unit → (changes : List (Term × Fraction)) (ts : List Term) → AllByRecursion (λ t. is_zero (number_on changes t) ≡ false → scaled_number unit (number_on changes t) ≢ pos 0) ts
some_changes unit h changes [] = tt
some_changes unit h changes (t ∷ ts) = ((λ some. scaled_some unit (number_on changes t) h some), some_changes unit h changes ts)

changes_are : (unit : ℕ) (changes : List (Term × Fraction)) (ts : List Term) → 0 < unit → AllByRecursion (λ t. unsigned_abs (scaled_number unit (number_on changes t)) < CHANGE_SIZE) ts
    → AreAmounts (length ts) CHANGE_SIZE (changes_from unit 0 changes ts)
changes_are unit changes ts h small = record {
  numbers = numbers_of_rising (length ts) (changes_from unit 0 changes ts) (changes_rise unit 0 changes ts) (changes_below unit 0 (length ts) changes ts (omega arith));
  some = All-from_recursion (λ (c : ℕ × ℤ). c.1 ≢ pos 0) (changes_from unit 0 changes ts) (each_change (λ n. n ≢ pos 0) unit 0 changes ts (some_changes unit h changes ts));
  small =
      All-from_recursion (λ n. unsigned_abs n < CHANGE_SIZE) (map (λ (c : ℕ × ℤ). c.1) (changes_from unit 0 changes ts))
      (each_map (λ n. unsigned_abs n < CHANGE_SIZE) (λ (c : ℕ × ℤ). c.1) (changes_from unit 0 changes ts)
      (each_change (λ n. unsigned_abs n < CHANGE_SIZE) unit 0 changes ts
      (each_weaker (λ t. unsigned_abs (scaled_number unit (number_on changes t)) < CHANGE_SIZE) (λ t. is_zero (number_on changes t) ≡ false → unsigned_abs (scaled_number unit (number_on changes t)) < CHANGE_SIZE) (λ t h some. h) ts small)));
}

-- ---- steps

step_is : (bound : BoundParts) (b : BoundStep) → IsFitting (facts_of bound) (values_of bound) (unit_of bound) b → AllByRecursion (AreNumbered bound) b.needs
    → IsStep (length (facts_of bound)) (length (values_of bound)) (length (numbers_of bound).subgoals) (flat_step (numbers_of bound) b)
step_is bound b fits numbered = record {
  needs = subgoals_put bound b.needs numbered;
  adds = facts_are (numbers_of bound) b.adds;
  deletes = facts_are (numbers_of bound) (filter (λ a. not (is_among b.adds a)) b.deletes);
  apart = apart_from (numbers_of bound) b.adds b.deletes;
  changes = changes_are (unit_of bound) b.changes (values_of bound) (unit_above bound) fits.changes;
  cost = fits.cost;
}

steps_are : (bound : BoundParts) (known : List Subgoal) → IsWithin bound known
    → All (IsStep (length (facts_of bound)) (length (values_of bound)) (length (numbers_of bound).subgoals)) (map (flat_step (numbers_of bound)) bound.steps)
steps_are bound known within =
    All-from_recursion (IsStep (length (facts_of bound)) (length (values_of bound)) (length (numbers_of bound).subgoals)) (map (flat_step (numbers_of bound)) bound.steps)
    (each_map (IsStep (length (facts_of bound)) (length (values_of bound)) (length (numbers_of bound).subgoals)) (flat_step (numbers_of bound)) bound.steps
    (each_weaker (λ b. IsFitting (facts_of bound) (values_of bound) (unit_of bound) b × AllByRecursion (AreNumbered bound) b.needs)
    (λ b. IsStep (length (facts_of bound)) (length (values_of bound)) (length (numbers_of bound).subgoals) (flat_step (numbers_of bound) b)) (λ b both. step_is bound b both.0 both.1) bound.steps
    (each_both (IsFitting (facts_of bound) (values_of bound) (unit_of bound)) (λ b. AllByRecursion (AreNumbered bound) b.needs) bound.steps within.steps (of_steps (AreNumbered bound) bound (conditions_numbered bound)))))

same_steps : (n : FlatTables) (bs : List BoundStep) → map (λ (step : FlatStep). step.step) (map (flat_step n) bs) ≡ map (λ (b : BoundStep). b.step) bs
same_steps n [] = refl
same_steps n (b ∷ bs) = ap (λ (ss : List Step). b.step ∷ ss) (same_steps n bs)

-- ---- the whole

pub flat_of_is_flat : (bound : BoundParts) (known : List Subgoal) → IsBound bound → IsWithin bound known → IsFlat (flat_of bound)
unfolding flat_of
flat_of_is_flat bound known is within = record {
  positive = above (unit_of bound) (unit_above bound);
  unit = within.unit;
  few_facts = within.few_facts;
  few_values = within.few_values;
  few_subgoals = subst (λ (xs : List Subgoal). length xs ≤ MOST_SUBGOALS) within.is within.few_subgoals;
  few_steps = few (length (map (flat_step (numbers_of bound)) bound.steps)) (length bound.steps) (length-map bound.steps (flat_step (numbers_of bound))) is.few;
  start = record {
    facts_are = facts_are (numbers_of bound) bound.atoms;
    count = length-map (values_of bound) (λ t. scaled_number (unit_of bound) (number_on bound.values t));
  };
  small_start =
      All-from_recursion (λ n. unsigned_abs n < CHANGE_SIZE) (map (λ t. scaled_number (unit_of bound) (number_on bound.values t)) (values_of bound))
      (each_map (λ n. unsigned_abs n < CHANGE_SIZE) (λ t. scaled_number (unit_of bound) (number_on bound.values t)) (values_of bound) within.starts);
  subgoals =
      once_all same_subgoal (IsSubgoal (length (facts_of bound)) (length (values_of bound))) [] (all_subgoals (facts_of bound) (values_of bound) (unit_of bound) (conditions_of bound))
      (All-nil (IsSubgoal (length (facts_of bound)) (length (values_of bound)))) (all_subgoals_are bound known is within);
  distinct_subgoals = once_distinct same_subgoal same_subgoal-Decides [] (all_subgoals (facts_of bound) (values_of bound) (unit_of bound) (conditions_of bound)) distinct_none;
  steps = steps_are bound known within;
  distinct = subst (λ (ss : List Step). AreDistinct ss) (sym (same_steps (numbers_of bound) bound.steps)) is.once;
  goal = subgoals_put bound bound.goal (of_goal (AreNumbered bound) bound (conditions_numbered bound));
}
  where
    above : (n : ℕ) → 0 < n → pos 0 <ℤ pos n
    above n h = omega (arith, ints)

    few : (m n : ℕ) → m ≡ n → n ≤ 2 ^ 16 → m ≤ 2 ^ 16
    few m n e h = omega arith

pub flat_is_flat : FlatIsFlat
flat_is_flat bound flat is e =
    let scaled_to = scaled_task bound flat e in
    subst (λ (task : Parts). IsFlat task) (sym scaled_to.is) (flat_of_is_flat bound scaled_to.known is scaled_to.within)
