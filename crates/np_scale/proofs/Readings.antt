-- What conditions read is in the tables of a flat task.
use Rattle.std.proofs.Common.{◌≡◌, ◌≢◌, ℕ, true, false, refl, sym, ◌∙◌, ap, subst, List, [], ◌∷◌, map, pos}
use Rattle.std.specs.List.{flat_map, list_any, AllByRecursion}
use Rattle.std.proofs.lemmas.List.Elements.{recursion_from_All}
use Rattle.np_frac.specs.Fractions.{Fraction, whole}
use Rattle.np_frac.specs.Checked.{is_zero}
use Rattle.np_frac.specs.Field.{minus_swapped, minus_zero, minus_self}
use Rattle.np_model.specs.declared.task.Atom as model
use Rattle.np_model.specs.declared.task.Term.{Term}
use Rattle.np_model.specs.declared.task.Op.{Op}
use Rattle.np_model.specs.declared.task.Op.TheVariants.{Less, Greater, AtMost, AtLeast, Equal}
use Rattle.np_model.specs.Ground.{same_atom, same_term, same_atom-Decides, same_term-Decides}
use Rattle.np_model.specs.States.{is_among}
use Rattle.np_model.specs.Tasks.{AreDistinct}
use Rattle.np_model.specs.Values.{negated}
use Rattle.np_linear.specs.declared.linear.Linear.{Linear}
use Rattle.np_bind.specs.declared.bound.BoundCond.{BoundCond}
use Rattle.np_bind.specs.declared.bound.BoundCond.TheVariants.{Compare}
use Rattle.np_bind.specs.declared.bound.BoundParts.{BoundParts}
use Rattle.np_bind.specs.BoundTasks.{IsLinear, IsCondition, IsKept, IsBound}
use Rattle.np_scale.specs.Tables.{conditions_of, atoms_in, terms_in, facts_of, values_of, number_of}
use Rattle.np_scale.specs.Wholes.{unit_of}
use Rattle.np_scale.specs.Forms.{inequalities_of, negated_sum, subgoals_in}
use Rattle.np_scale.specs.FlatOf.{same_subgoal, all_subgoals, numbers_of}
use Rattle.np_scale.proofs.Every.{each_weaker, each_map, each_unmap, each_append, each_front, each_back, each_flat, each_flat_from, each_both, first_differs, others_distinct}
use Rattle.np_scale.proofs.Once.{each_in_once, same_number}
use Rattle.np_scale.proofs.InPlace.{Apart}
use Rattle.np_scale.proofs.Positive.{some_from, other_from}
use Rattle.np_scale.proofs.SameSubgoals.{same_subgoal-Decides}

-- the atoms and terms of a condition have numbers
pub record IsRead (facts : List model.Atom) (terms : List Term) (c : BoundCond) : Type 0 where
  pub atoms : AllByRecursion (λ a. is_among facts a ≡ true) (atoms_in c)
  pub terms_there : AllByRecursion (λ t. list_any (same_term t) terms ≡ true) (terms_in c)

-- a condition of a bound task whose atoms and terms have numbers
pub record IsFound (bound : BoundParts) (c : BoundCond) : Type 0 where
  pub condition : IsCondition bound.values c
  pub read : IsRead (facts_of bound) (values_of bound) c

-- the subgoals that a condition comes to have numbers
abbrev pub AreNumbered : BoundParts → BoundCond → Type 0
AreNumbered bound c =
    AllByRecursion (λ q. list_any (same_subgoal q) (numbers_of bound).subgoals ≡ true) (subgoals_in (facts_of bound) (values_of bound) (unit_of bound) c)

-- ---- all conditions of a bound task

conditions_are : (bound : BoundParts) → IsBound bound → AllByRecursion (IsCondition bound.values) (conditions_of bound)
conditions_are bound is =
    each_append (IsCondition bound.values) (flat_map (λ b. b.needs) bound.steps) bound.goal
    (each_flat_from (IsCondition bound.values) (λ b. b.needs) bound.steps
    (each_weaker (IsKept bound.values) (λ b. AllByRecursion (IsCondition bound.values) b.needs) (λ b kept. recursion_from_All (IsCondition bound.values) b.needs kept.needs)
    bound.steps (recursion_from_All (IsKept bound.values) bound.steps is.steps)))
    (recursion_from_All (IsCondition bound.values) bound.goal is.goal)

conditions_read : (bound : BoundParts) → AllByRecursion (IsRead (facts_of bound) (values_of bound)) (conditions_of bound)
conditions_read bound =
    each_weaker
    (λ c. AllByRecursion (λ a. is_among (facts_of bound) a ≡ true) (atoms_in c) × AllByRecursion (λ t. list_any (same_term t) (values_of bound) ≡ true) (terms_in c))
    (IsRead (facts_of bound) (values_of bound)) (λ c both. record { atoms = both.0; terms_there = both.1 }) (conditions_of bound)
    (each_both (λ c. AllByRecursion (λ a. is_among (facts_of bound) a ≡ true) (atoms_in c)) (λ c. AllByRecursion (λ t. list_any (same_term t) (values_of bound) ≡ true) (terms_in c)) (conditions_of bound)
    (each_flat (λ a. is_among (facts_of bound) a ≡ true) atoms_in (conditions_of bound) (each_in_once same_atom same_atom-Decides (flat_map atoms_in (conditions_of bound))))
    (each_flat (λ t. list_any (same_term t) (values_of bound) ≡ true) terms_in (conditions_of bound) (each_in_once same_term same_term-Decides (flat_map terms_in (conditions_of bound)))))

pub conditions_found : (bound : BoundParts) → IsBound bound → AllByRecursion (IsFound bound) (conditions_of bound)
conditions_found bound is =
    each_weaker (λ c. IsCondition bound.values c × IsRead (facts_of bound) (values_of bound) c) (IsFound bound) (λ c both. record { condition = both.0; read = both.1 }) (conditions_of bound)
    (each_both (IsCondition bound.values) (IsRead (facts_of bound) (values_of bound)) (conditions_of bound) (conditions_are bound is) (conditions_read bound))

pub conditions_numbered : (bound : BoundParts) → AllByRecursion (AreNumbered bound) (conditions_of bound)
conditions_numbered bound =
    each_flat (λ q. list_any (same_subgoal q) (numbers_of bound).subgoals ≡ true) (subgoals_in (facts_of bound) (values_of bound) (unit_of bound)) (conditions_of bound)
    (each_in_once same_subgoal same_subgoal-Decides (all_subgoals (facts_of bound) (values_of bound) (unit_of bound) (conditions_of bound)))

-- what holds of all conditions holds of those of each step, and of the goal
pub of_steps : (P : BoundCond → Type 0) (bound : BoundParts) → AllByRecursion P (conditions_of bound) → AllByRecursion (λ b. AllByRecursion P b.needs) bound.steps
of_steps P bound all = each_flat P (λ b. b.needs) bound.steps (each_front P (flat_map (λ b. b.needs) bound.steps) bound.goal all)

pub of_goal : (P : BoundCond → Type 0) (bound : BoundParts) → AllByRecursion P (conditions_of bound) → AllByRecursion P bound.goal
of_goal P bound all = each_back P (flat_map (λ b. b.needs) bound.steps) bound.goal all

-- ---- the sides of a comparison

-- distinct terms with numbers, and no coefficient 0
pub record IsSide (terms : List Term) (l : Linear) : Type 0 where
  pub distinct : AreDistinct (map (λ t. t.0) l.terms)
  pub there : AllByRecursion (λ t. list_any (same_term t.0) terms ≡ true) l.terms
  pub some : AllByRecursion (λ t. is_zero t.1 ≡ false) l.terms

pub negated_twice : (x : Fraction) → negated (negated x) ≡ x
negated_twice x = minus_swapped (whole (pos 0)) x ∙ minus_zero x

pub negated_some : (x : Fraction) → is_zero x ≡ false → is_zero (negated x) ≡ false
negated_some x some = some_from (negated x) (λ e. other_from x some (sym (negated_twice x) ∙ ap negated e ∙ minus_self (whole (pos 0))))

side_of : (values : List (Term × Fraction)) (terms : List Term) (l : Linear) → IsLinear values l → AllByRecursion (λ t. list_any (same_term t) terms ≡ true) (map (λ t. t.0) l.terms) → IsSide terms l
side_of values terms l is there = record {
  distinct = is.terms.distinct;
  there = each_unmap (λ t. list_any (same_term t) terms ≡ true) (λ t. t.0) l.terms there;
  some = each_weaker (λ t. t.1 ≢ whole (pos 0)) (λ t. is_zero t.1 ≡ false) (λ t other. some_from t.1 other) l.terms (recursion_from_All (λ t. t.1 ≢ whole (pos 0)) l.terms is.coefficients);
}

same_terms : (ts : List (Term × Fraction)) → map (λ (t : Term × Fraction). t.0) (map (λ (t : Term × Fraction). (t.0, negated t.1)) ts) ≡ map (λ t. t.0) ts
same_terms [] = refl
same_terms (t ∷ ts) = ap (λ us. t.0 ∷ us) (same_terms ts)

negated_side : (terms : List Term) (l : Linear) → IsSide terms l → IsSide terms (negated_sum l)
negated_side terms l is = record {
  distinct = subst (λ (ts : List Term). AreDistinct ts) (sym (same_terms l.terms)) is.distinct;
  there = each_map (λ t. list_any (same_term t.0) terms ≡ true) (λ t. (t.0, negated t.1)) l.terms is.there;
  some = each_map (λ t. is_zero t.1 ≡ false) (λ t. (t.0, negated t.1)) l.terms (each_weaker (λ t. is_zero t.1 ≡ false) (λ t. is_zero (negated t.1) ≡ false) (λ t some. negated_some t.1 some) l.terms is.some);
}

sides_from : (terms : List Term) (op : Op) (l : Linear) → IsSide terms l → AllByRecursion (λ side. IsSide terms side.1) (inequalities_of op l)
sides_from terms AtLeast l is = (is, tt)
sides_from terms Greater l is = (is, tt)
sides_from terms AtMost l is = (negated_side terms l is, tt)
sides_from terms Less l is = (negated_side terms l is, tt)
sides_from terms Equal l is = (is, (negated_side terms l is, tt))

pub sides_are : (bound : BoundParts) (op : Op) (l : Linear) → IsFound bound (Compare op l) → AllByRecursion (λ side. IsSide (values_of bound) side.1) (inequalities_of op l)
sides_are bound op l found = sides_from (values_of bound) op l (side_of bound.values (values_of bound) l found.condition found.read.terms_there)

-- ---- numbers of terms

-- terms by number, with their coefficients
abbrev pub numbered : List Term → List (Term × Fraction) → List (ℕ × Fraction)
numbered terms ts = map (λ t. (number_of same_term terms t.0, t.1)) ts

pub numbers_apart : (terms : List Term) (ts : List (Term × Fraction)) → AreDistinct (map (λ t. t.0) ts) → AllByRecursion (λ t. list_any (same_term t.0) terms ≡ true) ts → Apart (numbered terms ts)
numbers_apart terms [] distinct there = tt
numbers_apart terms (t ∷ ts) distinct there =
    (others ts (first_differs t.0 (map (λ u. u.0) ts) distinct) there.1, numbers_apart terms ts (others_distinct t.0 (map (λ u. u.0) ts) distinct) there.1)
  where
    others : (us : List (Term × Fraction)) → AllByRecursion (λ u. t.0 ≢ u) (map (λ u. u.0) us) → AllByRecursion (λ u. list_any (same_term u.0) terms ≡ true) us
        → AllByRecursion (λ y. number_of same_term terms t.0 ≢ y.0) (numbered terms us)
    others [] differ all = tt
    others (u ∷ us) differ all = ((λ e. differ.0 (same_number same_term same_term-Decides terms t.0 u.0 there.0 all.0 e)), others us differ.1 all.1)
