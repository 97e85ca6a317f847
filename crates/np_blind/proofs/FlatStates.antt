-- A reached state of the space as a flat state.
use Rattle.std.proofs.Common.{◌≡◌, ℕ, ℤ, List, length, sym, ap, ◌∙◌, subst}
use Rattle.np_frac.specs.Fractions.{whole}
use Rattle.np_state.specs.declared.state.State.{State}
use Rattle.np_state.specs.States.{value_of}
use Rattle.np_space.specs.Runs.{IsReached}
use Rattle.np_flat.specs.declared.state.FlatState.{FlatState}
use Rattle.np_flat.specs.declared.parts.Parts.{Parts}
use Rattle.np_flat.specs.Flats.{IsFlat, IsStateOf}
use Rattle.np_blind.specs.Readings.{flat_of, state_of, true_numbers}
use Rattle.np_blind.specs.Spaces.{first_of, next_of}
use Rattle.np_blind.proofs.Readings.{read_is, same_facts}
use Rattle.np_blind.proofs.Runs.{reached_are_readings}

-- it has a bit for each fact
pub count_is : (task : Parts) (s : State ℤ) → IsFlat task → IsReached (next_of task) (first_of task) (value_of whole s) → length task.facts ≡ length s.facts
count_is task s flat reached =
    let of = reached_are_readings task flat (value_of whole s) reached in
    sym (same_facts task s (flat_of (value_of whole s)) (sym of.same))

module _ (facts : List ℕ) (values : List ℤ) (s : State ℤ) (e : facts ≡ true_numbers s.facts) (f : values ≡ s.cells.items) where
  -- its parts make the flat state
  pub flat_is : ◌≡◌ {A = FlatState} (record { facts = facts; values = values }) (flat_of (value_of whole s))
  flat_is = (λ i. record { facts = e i; values = f i }) ∙ sym (read_is s)

  module _ (task : Parts) (flat : IsFlat task) (reached : IsReached (next_of task) (first_of task) (value_of whole s)) where
    pub reading_is : state_of task (record { facts = facts; values = values }) ≡ value_of whole s
    reading_is = ap (state_of task) flat_is ∙ (reached_are_readings task flat (value_of whole s) reached).same

    pub state_is : IsStateOf task (record { facts = facts; values = values })
    state_is = subst (IsStateOf task) (sym flat_is) (reached_are_readings task flat (value_of whole s) reached).state
