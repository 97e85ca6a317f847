-- What a state of some cells says.
use Rattle.std.specs.Prelude.{map}
use Rattle.np_frac.specs.Fractions.{Fraction}
use Rattle.np_state.specs.StateValues.{StateValue}
use Rattle.np_state.specs.declared.state.State.{State}

-- the facts, and the number of each cell
abbrev pub value_of : {C : Type 0} → (C → Fraction) → State C → StateValue
value_of value s = record { facts = s.facts; cells = map value s.cells.items }
