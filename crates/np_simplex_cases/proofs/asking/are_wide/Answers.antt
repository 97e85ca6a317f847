use Rattle.std.proofs.Common.{◌∙◌, sym}
use Rattle.np_simplex_cases.proofs.Wide.{wide_at}
use Rattle.np_simplex_cases.proofs.asking.are_wide.Goals as goal

pub returns : goal.returns
returns c = λ e k l. wide_at c.args.rows.now c.args.columns k (sym c.all_wide.ensures ∙ e) l
