use Rattle.np_table.specs.Tables.{at}
use Rattle.np_table.specs.Units.{IsPaid}
use Rattle.np_table.specs.Given.{IsNoted, is_number}
use Rattle.np_table.proofs.given.decide.Given as goal

abbrev pub invariant-loop-step : goal.invariant-loop-step
invariant-loop-step l = record {
  noted : IsNoted l.flat (at l.entries) l.reaches.items l.step;
  paid : IsPaid l.flat l.state (λ q. is_number (at l.entries q)) l.units.items l.step;
}
