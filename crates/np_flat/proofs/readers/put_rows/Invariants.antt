use Rattle.std.proofs.Common.{◌≡◌, ◌++◌, flat_map, take}
use Rattle.np_flat.specs.Readers.{rows, row}
use Rattle.np_flat.proofs.readers.put_rows.Given as goal

abbrev pub invariant-loop-place : goal.invariant-loop-place
invariant-loop-place l = l.numbers.items ≡ l.initial.numbers.items ++ flat_map (row (rows l.table)) (take l.place-index l.places)
