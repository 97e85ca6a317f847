use Rattle.std.proofs.Common.{subst, map}
use Rattle.np_state.specs.Interning.{IsNumberOf}
use Rattle.np_state.specs.States.{value_of}
use Rattle.np_state.proofs.Numbers.{numbered}
use Rattle.np_state.proofs.StateEquality.{state_eq, same_state, alike_state}
use Rattle.np_state.proofs.store.StateStore.intern.Goals as goal

pub returns-clause-ok : goal.returns-clause-ok
returns-clause-ok g c =
    let eq = g.C.PartialEq.eq in
    let value = g.C.Cell.value in
    let said = c.in_ok-insert_full.ensures in
    subst (λ old. IsNumberOf old (map (value_of value) c.insert_full.new.self.keys) (value_of value c.args.s) c.in_ok-insert_full.field-0.0 c.in_ok-insert_full.field-0.1) c.self.view_is
    (numbered (state_eq eq) (value_of value) (same_state eq value g.met.C.Cell.same) (alike_state eq value g.met.C.Cell.alike) c.self.inside.states.keys c.insert_full.new.self.keys c.args.s c.in_ok-insert_full.field-0.0 c.in_ok-insert_full.field-0.1 said.added said.keys said.index said.stored.0 said.stored.1 said.stored.2)
