use Rattle.std.proofs.Common.{subst}
use Rattle.np_state.specs.Interning.{AreDistinct}
use Rattle.np_state.specs.States.{value_of}
use Rattle.np_state.proofs.Distinct.{one_place}
use Rattle.np_state.proofs.StateEquality.{state_eq, same_state, alike_state}
use Rattle.np_state.proofs.store.StateStore.len.Goals as goal

pub returns-clause-distinct : goal.returns-clause-distinct
returns-clause-distinct g c =
    let eq = g.C.PartialEq.eq in
    let value = g.C.Cell.value in
    subst AreDistinct c.self.view_is
    (record { one_number = one_place (state_eq eq) (value_of value) (same_state eq value g.met.C.Cell.same) (alike_state eq value g.met.C.Cell.alike) c.self.inside.states.keys c.len.ensures.unique })
