use Rattle.std.proofs.Common.{◌≡◌, ◌++◌, flat_map, take}
use Rattle.np_flat.specs.Readers.{rows, row}
use Rattle.np_flat.proofs.readers.put_changed_rows.Given as goal

abbrev pub invariant-loop-value : goal.invariant-loop-value
invariant-loop-value l = l.numbers.items ≡ l.initial.numbers.items ++ flat_map (λ c. row (rows l.table) c.0) (take l.value-index l.changes)
