-- A flat step that is the image of a bound step: where a flat state stands for a state, it still does after both.
use Rattle.std.proofs.Common.{◌≡◌, ℕ, Bool, true, false, ◌&&◌, ◌||◌, not, ℤ, pos, refl, sym, ◌∙◌, ap, List, length, Some}
use Rattle.std.specs.Prelude.{slice_get, option_map}
use Rattle.std.specs.Option.{option_map_or}
use Rattle.np_frac.specs.Fractions.{whole, plus, times}
use Rattle.np_frac.specs.Field.{times-plus}
use Rattle.np_model.specs.declared.task.Atom.{Atom}
use Rattle.np_model.specs.declared.task.Term.{Term}
use Rattle.np_model.specs.States.{State, is_among}
use Rattle.np_flat.specs.declared.state.FlatState.{FlatState}
use Rattle.np_flat.specs.declared.parts.FlatStep.{FlatStep}
use Rattle.np_flat.specs.declared.parts.Parts.{Parts}
use Rattle.np_flat.specs.Flats.{IsStateOf}
use Rattle.np_flat.specs.States.{has, value_at, all_changed, state_after, meets}
use Rattle.np_flat.proofs.Moves.{has_after}
use Rattle.np_linear.specs.Linears.{zero, value_in}
use Rattle.np_bind.specs.declared.bound.BoundStep.{BoundStep}
use Rattle.np_bind.specs.Grounding.{number_on}
use Rattle.np_bind.specs.BoundPlans.{is_bound_applicable, bound_after}
use Rattle.np_scale.specs.Same.{StandsFor}

-- a flat step does to flat states what a bound step does to the states that they stand for
pub record IsImage (flat : Parts) (b : BoundStep) (step : FlatStep) : Type 0 where
  pub name : step.step ≡ b.step
  pub cost : whole (pos step.cost) ≡ b.cost
  pub needs : (s : State) (f : FlatState) → StandsFor flat s f → is_bound_applicable b s ≡ meets flat f step
  pub state : (f : FlatState) → IsStateOf flat f → IsStateOf flat (state_after step f)
  pub adds : (p : ℕ) (a : Atom) → slice_get flat.facts p ≡ Some a → has step.adds p ≡ is_among b.adds a
  pub deletes : (p : ℕ) (a : Atom) → slice_get flat.facts p ≡ Some a → has step.deletes p ≡ (is_among b.deletes a && not (is_among b.adds a))
  pub changes : (n : ℕ) (t : Term) → slice_get flat.values n ≡ Some t → (xs : List ℤ) → length xs ≡ length flat.values
      → whole (value_at (all_changed step.changes xs) n) ≡ plus (whole (value_at xs n)) (times (whole flat.unit) (number_on b.changes t))

-- what is added stays, also where it is deleted too
kept_or : (a d s : Bool) → (a || (s && not (d && not a))) ≡ (a || (s && not d))
kept_or true d s = refl
kept_or false true s = refl
kept_or false false s = refl

-- the value of a term after a bound step
pub value_after : (b : BoundStep) (s : State) (t : Term) → s.value t ≡ Some (value_in s t) → value_in (bound_after b s) t ≡ plus (value_in s t) (number_on b.changes t)
value_after b s t there = ap (λ o. option_map_or (λ x. x) (option_map (λ v. plus v (number_on b.changes t)) o) zero) there

-- a flat state that stands for a state does so after a step and its image
pub stands_after : (flat : Parts) (b : BoundStep) (step : FlatStep) (s : State) (f : FlatState)
    → IsImage flat b step → StandsFor flat s f → StandsFor flat (bound_after b s) (state_after step f)
stands_after flat b step s f image h = record {
  state = image.state f h.state;
  facts = λ p a at.
      has_after step f.facts p
      ∙ rw (image.adds p a at, image.deletes p a at, h.facts p a at) (kept_or (is_among b.adds a) (is_among b.deletes a) (s.has a));
  there = λ n t at. rw (h.there n t at) refl;
  values = λ n t at.
      image.changes n t at f.values h.state.count
      ∙ ap (λ z. plus z (times (whole flat.unit) (number_on b.changes t))) (h.values n t at)
      ∙ sym (times-plus (whole flat.unit) (value_in s t) (number_on b.changes t))
      ∙ ap (times (whole flat.unit)) (sym (value_after b s t (h.there n t at)));
}
