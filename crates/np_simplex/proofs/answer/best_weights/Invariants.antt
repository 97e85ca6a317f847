use Rattle.std.proofs.Common.{◌≡◌, length, map}
use Rattle.std.specs.List.{range_with_len}
use Rattle.np_simplex.specs.Tableau.{at, basic_amount}
use Rattle.np_simplex.specs.Views.{line}
use Rattle.np_simplex.proofs.answer.best_weights.Given as goal

abbrev pub invariant-loop-k : goal.invariant-loop-k
invariant-loop-k g l = map g.N.Scalar.value l.made.items ≡ map
    (basic_amount (λ row. at row.numbers (length l.table.columns.items)) (map (line g.N.Scalar.value) l.table.rows.items)) (range_with_len 0 l.k)
