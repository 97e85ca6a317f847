use Rattle.std.proofs.Common.{length, take}
use Rattle.np_flat.specs.Readers.{rows, reads_value, AreReaders}
use Rattle.np_flat.proofs.readers.value_readers.Given as goal

abbrev pub invariant-loop-number : goal.invariant-loop-number
invariant-loop-number l = AreReaders reads_value (length l.parts.values) (take l.number l.parts.subgoals) (rows l.table.items)
