use Rattle.std.proofs.Common.{false, sym, subst}
use Rattle.np_relax.specs.Closed.{IsLeast, on}
use Rattle.np_table.proofs.Falls.{none_removed}
use Rattle.np_table.proofs.tables.greatest.Goals as goal

pub entries-requires-clause-can : goal.entries-requires-clause-can
entries-requires-clause-can c =
    subst (λ xs. IsLeast c.args.flat.now c.args.state.now (λ n. false) (on xs)) (sym c.as_slice-can.ensures.value)
    (none_removed c.args.flat.now c.args.state.now c.in_ok-removed.removed _ (on c.in_ok-reached.reached.can.items) c.in_ok-removed.ensures c.in_ok-reached.ensures.least)
