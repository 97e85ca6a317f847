-- What a space answers about a step.
use Rattle.std.specs.Prelude.{ℕ, Option}
use Rattle.std.specs.Option.{option_map}
use Rattle.np_frac.specs.Fractions.{Fraction}
use Rattle.np_state.specs.StateValues.{StateValue}
use Rattle.np_state.specs.States.{value_of}
use Rattle.np_state.specs.declared.state.State.{State}

-- what the state after a step says, and the step's cost
abbrev pub successor_of : {C : Type 0} → (C → Fraction) → Option (State C × ℕ) → Option (StateValue × ℕ)
successor_of value next = option_map (λ t. (value_of value t.0, t.1)) next
