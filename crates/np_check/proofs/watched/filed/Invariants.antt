use Rattle.np_flat.specs.Readers.{rows}
use Rattle.np_check.specs.Watched.{AreFiled}
use Rattle.np_check.proofs.watched.filed.Given as goal

abbrev pub invariant-loop-number : goal.invariant-loop-number
invariant-loop-number l = AreFiled l.parts l.number (rows l.table.items)
