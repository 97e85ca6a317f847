use Rattle.np_relax.specs.Closed.{on}
use Rattle.np_table.specs.Units.{IsPaid}
use Rattle.np_table.proofs.units.units.Given as goal

abbrev pub invariant-loop-step : goal.invariant-loop-step
invariant-loop-step l = IsPaid l.flat l.state (on l.can) l.units.items l.step
