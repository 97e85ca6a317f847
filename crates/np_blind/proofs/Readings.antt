-- States of a space read as flat states, and back.
use Rattle.std.proofs.Common.{◌≡◌, Bool, ℤ, List, [], ◌∷◌, length, map, refl, sym, ap, ◌∙◌}
use Rattle.np_frac.specs.Fractions.{Fraction, whole}
use Rattle.np_frac.specs.Field.{whole_num}
use Rattle.np_state.specs.StateValues.{StateValue}
use Rattle.np_state.specs.declared.state.State.{State}
use Rattle.np_state.specs.States.{value_of}
use Rattle.np_flat.specs.declared.state.FlatState.{FlatState}
use Rattle.np_flat.specs.declared.parts.Parts.{Parts}
use Rattle.np_flat.specs.declared.parts.FlatStep.{FlatStep}
use Rattle.np_flat.specs.Flats.{IsStateOf}
use Rattle.np_flat.specs.States.{facts_after, all_changed, state_after}
use Rattle.np_blind.specs.Readings.{flat_of, state_of, state_with, read, true_numbers, bits_of}
use Rattle.np_blind.proofs.Bits.{length-bits_of}
use Rattle.np_blind.proofs.Numbers.{true_back}

-- whole numbers, as fractions and back
pub whole_nums : (zs : List ℤ) → map (λ (x : Fraction). x.num) (map whole zs) ≡ zs
whole_nums [] = refl
whole_nums (z ∷ zs) = ap (λ (w : ℤ). w ∷ map (λ (x : Fraction). x.num) (map whole zs)) (whole_num z) ∙ ap (λ ws. z ∷ ws) (whole_nums zs)

-- what a state of whole numbers says, read as a flat state
pub read_is : (s : State ℤ) → flat_of (value_of whole s) ≡ read s
read_is s = λ i. record { facts = true_numbers s.facts; values = whole_nums s.cells.items i }

-- a flat state of the task comes back
pub flat_back : (task : Parts) (t : FlatState) → IsStateOf task t → flat_of (state_of task t) ≡ t
flat_back task t of = λ i. record { facts = true_back (length task.facts) t.facts of.facts_are i; values = whole_nums t.values i }

-- where a state says what a flat state of the task is in the space, they have as many facts, and the same values
pub same_facts : (task : Parts) (s : State ℤ) (t : FlatState) → value_of whole s ≡ state_of task t → length s.facts ≡ length task.facts
same_facts task s t e = ap (λ (v : StateValue). length v.facts) e ∙ length-bits_of (length task.facts) t.facts

pub same_values : (task : Parts) (s : State ℤ) (t : FlatState) → value_of whole s ≡ state_of task t → s.cells.items ≡ t.values
same_values task s t e = sym (whole_nums s.cells.items) ∙ ap (λ (v : StateValue). map (λ (x : Fraction). x.num) v.cells) e ∙ whole_nums t.values

-- facts and values after a step are those of the state after it
pub same_state : (facts : List Bool) (cells : List ℤ) (step : FlatStep) (s : State ℤ) → facts ≡ bits_of (length s.facts) (facts_after step (true_numbers s.facts)) → cells ≡ all_changed step.changes s.cells.items
    → ◌≡◌ {A = StateValue} (record { facts = facts; cells = map whole cells }) (state_with (length s.facts) (state_after step (read s)))
same_state facts cells step s e f = λ i. record { facts = e i; cells = map whole (f i) }
