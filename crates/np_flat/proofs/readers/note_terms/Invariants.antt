use Rattle.std.proofs.Common.{eqb, take}
use Rattle.std.specs.List.{list_any}
use Rattle.np_flat.specs.Readers.{rows, IsNoted}
use Rattle.np_flat.proofs.readers.note_terms.Given as goal

abbrev pub invariant-loop-value : goal.invariant-loop-value
invariant-loop-value l = IsNoted (λ v. list_any (λ t. eqb t.0 v) (take l.value-index l.terms)) l.number (rows l.initial.table.items) (rows l.table.items)
