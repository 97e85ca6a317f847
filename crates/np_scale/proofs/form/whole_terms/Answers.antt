use Rattle.np_scale.proofs.Fitted.{term_past}
use Rattle.np_scale.proofs.form.whole_terms.Goals as goal

pub returns-in_default : goal.returns-in_default
returns-in_default c =
    term_past c.args.factor.now c.args.coefficients.now c.loop-number.number-index c.loop-number-item.result c.loop-number-test.true c.loop-number-item.is c.in_default.ensures
