use Rattle.std.proofs.Common.{All, take}
use Rattle.np_flat.specs.Readers.{rows, row}
use Rattle.np_check.specs.Steps.{IsBounded}
use Rattle.np_check.proofs.check.is_expanded.Given as goal

abbrev pub invariant-loop-fact : goal.invariant-loop-fact
invariant-loop-fact l = All (λ p. All (IsBounded l.flat l.first l.entry) (row (rows l.table) p)) (take l.fact-index l.entry.state.facts)
