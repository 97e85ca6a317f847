use Rattle.std.proofs.Common.{map, sym, ap, ◌∙◌}
use Rattle.np_frac.specs.Fractions.{minus}
use Rattle.np_frac.specs.Field.{minus_zero}
use Rattle.np_simplex.specs.Tableau.{nought}
use Rattle.np_simplex.specs.Packed.{number_in}
use Rattle.np_simplex.proofs.answer.count.Goals as goal

pub returns-in-None-clause-value : goal.returns-in-None-clause-value
returns-in-None-clause-value g c = c.zero.ensures
    ∙ sym (ap (λ o. minus nought (number_in (map g.A.N.Scalar.value c.args.top.now) o)) (sym c.slot_of.ensures ∙ c.in-None.is) ∙ minus_zero nought)
