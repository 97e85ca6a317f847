-- The numbers of a flat task are exact.
use Rattle.std.proofs.Common.{◌≡◌, ℕ, ℤ, pos, negsuc, unsigned_abs, true, false, true≢false, refl, sym, ◌∙◌, subst, [], Some, Ok}
use Rattle.std.specs.Prelude.{int_lt, slice_get}
use Rattle.std.specs.List.{list_any, flat_map}
use Rattle.np_frac.specs.Fractions.{Fraction, whole, times, same_fraction}
use Rattle.np_frac.specs.Field.{whole_num, whole_den}
use Rattle.np_model.specs.declared.task.Term.{Term}
use Rattle.np_model.specs.Ground.{same_atom, same_term, same_atom-Decides, same_term-Decides}
use Rattle.np_model.proofs.Distinct.{distinct_none}
use Rattle.np_flat.specs.declared.parts.Parts.{Parts}
use Rattle.np_flat.specs.Flats.{IsFlat}
use Rattle.np_bind.specs.declared.bound.BoundStep.{BoundStep}
use Rattle.np_bind.specs.declared.bound.BoundParts.{BoundParts}
use Rattle.np_bind.specs.BoundTasks.{IsBound}
use Rattle.np_bind.specs.Grounding.{number_on}
use Rattle.np_scale.specs.Tables.{atoms_in, terms_in, conditions_of, facts_of, values_of}
use Rattle.np_scale.specs.Wholes.{unit_of, scaled_number}
use Rattle.np_scale.specs.FlatOf.{numbers_of, flat_with, flat_of}
use Rattle.np_scale.specs.Scaling.{scale_task}
use Rattle.np_scale.specs.Same.{StandsFor}
use Rattle.np_scale.proofs.Every.{each_at}
use Rattle.np_scale.proofs.Once.{once_has, once_distinct, there_at}
use Rattle.np_scale.proofs.Wholes.{start_whole, changes_whole}
use Rattle.np_scale.proofs.Limits.{IsFitting, scaled_task}
use Rattle.np_scale.proofs.Readings.{conditions_numbered}
use Rattle.np_scale.proofs.FlatIsFlat.{flat_is_flat}
use Rattle.np_scale.proofs.Conditions.{conditions_agree}
use Rattle.np_scale.proofs.FlatImages.{HasExactNumbers, read_has_value}

flat_of_is : (bound : BoundParts) → flat_of bound ≡ flat_with (numbers_of bound) bound
unfolding flat_of
flat_of_is bound = refl

-- the flat task of a bound task is made with its numbers
pub flat_is : (bound : BoundParts) (flat : Parts) → scale_task bound ≡ Ok flat → flat ≡ flat_with (numbers_of bound) bound
flat_is bound flat scales = (scaled_task bound flat scales).is ∙ flat_of_is bound

abs_is : (z : ℤ) → int_lt z (pos 0) ≡ false → pos (unsigned_abs z) ≡ z
abs_is (pos n) e = refl
abs_is (negsuc n) e = absurd (true≢false e)

-- a whole cost that isn't below 0 is its numerator's size
whole_cost : (x : Fraction) → int_lt x.num (pos 0) ≡ false → x.den ≡ 1 → whole (pos (unsigned_abs x.num)) ≡ x
whole_cost x sign one =
    same_fraction (whole (pos (unsigned_abs x.num))) x (whole_num (pos (unsigned_abs x.num)) ∙ abs_is x.num sign) (whole_den (pos (unsigned_abs x.num)) ∙ sym one)

module _ (bound : BoundParts) (flat : Parts) (is : IsBound bound) (scales : scale_task bound ≡ Ok flat) where
  -- a term at a place of the values is one of them
  numbered : (k : ℕ) (t : Term) → slice_get (values_of bound) k ≡ Some t → list_any (same_term t) (values_of bound) ≡ true
  numbered k t at = there_at same_term same_term-Decides (values_of bound) k t at

  pub exact_numbers : HasExactNumbers (numbers_of bound) bound
  exact_numbers = record {
    flat = subst IsFlat (flat_is bound flat scales) (flat_is_flat bound flat is scales);
    facts = once_distinct same_atom same_atom-Decides [] (flat_map atoms_in (conditions_of bound)) distinct_none;
    listed = conditions_numbered bound;
    there = λ k t at.
        read_has_value bound t is (sym (once_has same_term same_term-Decides t [] (flat_map terms_in (conditions_of bound))) ∙ numbered k t at);
    starts = λ k t at. start_whole bound t (numbered k t at);
    changes = λ i b from k t at.
        each_at
        (λ (x : BoundStep). (u : Term) → list_any (same_term u) (values_of bound) ≡ true
        → whole (scaled_number (unit_of bound) (number_on x.changes u)) ≡ times (whole (pos (unit_of bound))) (number_on x.changes u))
        bound.steps (changes_whole bound) i b from t (numbered k t at);
    costs = λ i b at.
        let fits = each_at (IsFitting (facts_of bound) (values_of bound) (unit_of bound)) bound.steps (scaled_task bound flat scales).within.steps i b at in
        whole_cost b.cost fits.cost_sign fits.cost_whole;
    agree = λ s f stands. conditions_agree bound is s f (subst (λ (x : Parts). StandsFor x s f) (sym (flat_of_is bound)) stands);
  }
