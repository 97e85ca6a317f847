use Rattle.np_simplex.specs.Views.{last_of, start_of}
use Rattle.np_simplex.proofs.Finished.{lp_one_row, lp_few}
use Rattle.np_simplex.proofs.Wide.{wide_run_past}
use Rattle.np_simplex.proofs.program.best.Goals as goal

pub returns-clause-only : goal.returns-clause-only
returns-clause-only g c = λ s w. wide_run_past (last_of c.args.lp.now) (start_of c.args.lp.now) (c.solve.ensures.only s w)

pub returns-clause-one_row : goal.returns-clause-one_row
returns-clause-one_row g c = λ one h s w. lp_one_row c.args.lp.now c.requires.right one h (c.solve.ensures.only s w)

pub returns-clause-one_row_pivots : goal.returns-clause-one_row_pivots
returns-clause-one_row_pivots g c = λ one w. lp_few c.args.lp.now c.requires.right one (c.solve.ensures.pivots w)
