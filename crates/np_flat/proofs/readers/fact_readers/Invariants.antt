use Rattle.std.proofs.Common.{length, take}
use Rattle.np_flat.specs.Readers.{rows, reads_fact, AreReaders}
use Rattle.np_flat.proofs.readers.fact_readers.Given as goal

abbrev pub invariant-loop-number : goal.invariant-loop-number
invariant-loop-number l = AreReaders reads_fact (length l.parts.facts) (take l.number l.parts.subgoals) (rows l.table.items)
