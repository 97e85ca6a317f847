-- A state of planning by names and a flat state that stands for it.
use Rattle.std.specs.Prelude.{◌≡◌, ℕ, slice_get, Some}
use Rattle.np_frac.specs.Fractions.{whole, times}
use Rattle.np_model.specs.declared.task.Atom.{Atom}
use Rattle.np_model.specs.declared.task.Term.{Term}
use Rattle.np_model.specs.States.{State}
use Rattle.np_flat.specs.declared.state.FlatState.{FlatState}
use Rattle.np_flat.specs.declared.parts.Parts.{Parts}
use Rattle.np_flat.specs.States.{has, value_at}
use Rattle.np_flat.specs.Flats.{IsStateOf}
use Rattle.np_linear.specs.Linears.{value_in}

-- the flat state has the facts that are true in the state, and its values are the unit times those of the state, which has them all
pub record StandsFor (flat : Parts) (s : State) (f : FlatState) : Type 0 where
  pub state : IsStateOf flat f
  pub facts : (p : ℕ) (a : Atom) → slice_get flat.facts p ≡ Some a → has f.facts p ≡ s.has a
  pub there : (n : ℕ) (t : Term) → slice_get flat.values n ≡ Some t → s.value t ≡ Some (value_in s t)
  pub values : (n : ℕ) (t : Term) → slice_get flat.values n ≡ Some t → whole (value_at f.values n) ≡ times (whole flat.unit) (value_in s t)
