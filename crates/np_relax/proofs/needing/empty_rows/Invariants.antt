use Rattle.std.proofs.Common.{◌≡◌, length, All, []}
use Rattle.np_flat.specs.Readers.{rows}
use Rattle.np_relax.proofs.needing.empty_rows.Given as goal

abbrev pub invariant-loop : goal.invariant-loop
invariant-loop l = record {
  count : length (rows l.table.items) ≡ l.counter;
  empty : All (λ r. r ≡ []) (rows l.table.items);
}
