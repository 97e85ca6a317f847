use Rattle.np_flat.specs.Readers.{rows}
use Rattle.np_relax.specs.Needing.{IsFiled}
use Rattle.np_relax.proofs.needing.Needing.new.Given as goal

abbrev pub invariant-loop-step : goal.invariant-loop-step
invariant-loop-step l = IsFiled l.flat l.step (rows l.rows.items)
