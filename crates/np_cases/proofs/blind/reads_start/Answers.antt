-- The first state of a space is reached by no steps.
use Rattle.std.proofs.Common.{◌≡◌, ℤ, [], Some, Result, sym, ap, subst}
use Rattle.std.specs.Prelude.{IfOk}
use Rattle.std.specs.declared.alloc.AllocError.{AllocError}
use Rattle.np_frac.specs.Fractions.{whole}
use Rattle.np_state.specs.StateValues.{StateValue}
use Rattle.np_state.specs.declared.state.State.{State}
use Rattle.np_state.specs.States.{value_of}
use Rattle.np_blind.specs.Spaces.{first_of}
use Rattle.np_cases.proofs.blind.reads_start.Goals as goal

pub flat_state-requires : goal.flat_state-requires
flat_state-requires g c =
    let is_first : value_of whole c.expect-start.result ≡ first_of c.new-space.result =
    subst (λ (r : Result (State ℤ) AllocError). IfOk r (λ s. value_of whole s ≡ first_of c.new-space.result)) c.expect-start.ensures c.start.ensures in
    record { steps = []; cost = 0; ran = ap (λ (s : StateValue). Some (s, 0)) (sym is_first) }
