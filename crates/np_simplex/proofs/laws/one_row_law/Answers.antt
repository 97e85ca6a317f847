use Rattle.np_simplex.proofs.OneRow.{one_row_free}
use Rattle.np_simplex.proofs.laws.one_row_law.Goals as goal

pub returns : goal.returns
returns c = one_row_free
