use Rattle.std.proofs.Common.{sym, ap, ◌∙◌}
use Rattle.std.specs.Ordering.{is_eq}
use Rattle.np_frac.specs.Fractions.{fraction_cmp}
use Rattle.np_simplex.specs.Tableau.{nought}
use Rattle.np_simplex.proofs.Amounts.{tied_same}
use Rattle.np_simplex.proofs.pivot.is_nought.Goals as goal

pub returns : goal.returns
returns g c = λ e. tied_same (g.N.Scalar.value c.args.x.now) nought
    (ap (λ y. is_eq (fraction_cmp (g.N.Scalar.value c.args.x.now) y)) (sym c.zero.ensures) ∙ ap is_eq (sym c.order.ensures) ∙ sym c.is_eq.ensures ∙ e)
