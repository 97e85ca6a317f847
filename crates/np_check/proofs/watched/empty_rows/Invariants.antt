use Rattle.std.proofs.Common.{◌≡◌, length}
use Rattle.np_flat.specs.Readers.{rows}
use Rattle.np_check.proofs.watched.empty_rows.Given as goal

abbrev pub invariant-loop : goal.invariant-loop
invariant-loop l = length (rows l.table.items) ≡ l.counter
