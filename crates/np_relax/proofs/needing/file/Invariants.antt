use Rattle.std.proofs.Common.{◌≡◌, length, drop}
use Rattle.np_flat.specs.Readers.{rows}
use Rattle.np_relax.specs.Needing.{filed}
use Rattle.np_relax.proofs.needing.file.Given as goal

abbrev pub invariant-loop-place : goal.invariant-loop-place
invariant-loop-place l = record {
  rest : filed l.places l.number (rows l.initial.table.items) ≡ filed (drop l.place-index l.places) l.number (rows l.table.items);
  count : length (rows l.table.items) ≡ length (rows l.initial.table.items);
}
