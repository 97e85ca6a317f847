use Rattle.std.proofs.Common.{◌≡◌, length}
use Rattle.np_table_cases.proofs.answers.row_of.Given as goal

abbrev pub invariant-loop-step : goal.invariant-loop-step
invariant-loop-step g l = length l.row ≡ length l.flat.steps
