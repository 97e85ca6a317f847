-- States of a space read as flat states, and back.
use Rattle.std.specs.Prelude.{ℕ, ℤ, Bool, List, filter, length, map}
use Rattle.std.specs.List.{range_with_len}
use Rattle.np_frac.specs.Fractions.{whole}
use Rattle.np_state.specs.StateValues.{StateValue}
use Rattle.np_state.specs.declared.state.State.{State}
use Rattle.np_flat.specs.declared.state.FlatState.{FlatState}
use Rattle.np_flat.specs.declared.parts.Parts.{Parts}
use Rattle.np_flat.specs.States.{has}
use Rattle.np_blind.specs.Bits.{bit}

-- the numbers of the bits that are true, ascending
abbrev pub true_numbers : List Bool → List ℕ
true_numbers bits = filter (bit bits) (range_with_len 0 (length bits))

-- so many bits; those of the numbers are true
abbrev pub bits_of : ℕ → List ℕ → List Bool
bits_of count numbers = map (has numbers) (range_with_len 0 count)

-- a state as a flat state: the numbers of its true bits, and the whole numbers of its cells
abbrev pub flat_of : StateValue → FlatState
flat_of s = record { facts = true_numbers s.facts; values = map (λ x. x.num) s.cells }

-- a flat state as a state of so many bits
abbrev pub state_with : ℕ → FlatState → StateValue
state_with count s = record { facts = bits_of count s.facts; cells = map whole s.values }

-- a flat state as a state of the space: a bit for each fact of the task
abbrev pub state_of : Parts → FlatState → StateValue
state_of task s = state_with (length task.facts) s

-- a state whose cells are whole numbers, as a flat state
abbrev pub read : State ℤ → FlatState
read s = record { facts = true_numbers s.facts; values = s.cells.items }
