use Rattle.std.proofs.Common.{refl, sym, ap}
use Rattle.std.specs.Prelude.{is_some}
use Rattle.np_run.proofs.KeptStates.{grown_in_place}
use Rattle.np_run.proofs.kept_state.KeptState.grow.Goals as goal

pub returns : goal.returns
returns c =
    grown_in_place c.args.self.now
    (record { atoms = c.args.self.now.atoms; values = c.get_mut.follows.lender c.in_ok-place.field-0 })
    c.args.term.now c.args.by.now c.in-Some.place.now c.in_ok-place.field-0 c.in-Some.ensures.value c.in_ok-place.ensures (λ a. refl)
    ((c.get_mut.follows.holds c.in_ok-place.field-0).3 (ap is_some (sym c.in-Some.ensures.value))).0
