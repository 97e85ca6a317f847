use Rattle.std.proofs.Common.{◌∙◌}
use Rattle.np_scale.proofs.Fitted.{coefficient_past}
use Rattle.np_scale.proofs.form.whole_coefficient.Goals as goal

pub returns-in_err-mul : goal.returns-in_err-mul
returns-in_err-mul c = c.from_residual.ensures ∙ coefficient_past c.args.factor.now c.args.coefficient.now c.requires c.in_err-mul.ensures.fits
