use Rattle.np_scale.proofs.Fitted.{after_first, ratio_err, lcm_err, lcm_more, next_positive, next_small}
use Rattle.std.proofs.Common.{◌∙◌, ap, arith}
use Rattle.np_scale.proofs.form.ratio_lcm.Goals as goal

pub returns-in_err-ratio-clause-none : goal.returns-in_err-ratio-clause-none
returns-in_err-ratio-clause-none c =
    λ _. ratio_err c.args.first.now c.args.coefficients.now c.requires.first c.requires.nonzero c.loop-place.place c.index-coefficients-place.result c.loop-place-test.true
    c.index-coefficients-place.is c.in_err-ratio.ensures.fits

pub returns-in_err-lcm-clause-none : goal.returns-in_err-lcm-clause-none
returns-in_err-lcm-clause-none c =
    λ _. lcm_err c.args.first.now c.args.coefficients.now c.requires.first c.requires.nonzero c.loop-place.place c.index-coefficients-place.result c.loop-place.lcm c.den.result
    c.loop-place-test.true c.index-coefficients-place.is c.loop-place.invariant.whole c.loop-place.invariant.positive
    (c.den.ensures.value ∙ ap (λ x. x.den) c.in_ok-ratio.ensures.value) c.in_err-lcm.ensures

pub loop-place-init : goal.loop-place-init
loop-place-init c = record {
  whole = after_first c.args.first.now c.args.coefficients.now c.requires.first c.requires.nonzero;
  positive = omega arith;
  small = omega arith;
}

pub loop-place-preserved : goal.loop-place-preserved
loop-place-preserved c = record {
  whole = lcm_more c.args.first.now c.args.coefficients.now c.loop-place.place c.index-coefficients-place.result c.loop-place.lcm c.den.result c.in_ok-lcm.lcm
      c.loop-place-test.true c.index-coefficients-place.is c.loop-place.invariant.whole (c.den.ensures.value ∙ ap (λ x. x.den) c.in_ok-ratio.ensures.value) c.in_ok-lcm.ensures;
  positive = next_positive c.loop-place.lcm c.den.result c.in_ok-lcm.lcm c.loop-place.invariant.positive c.den.ensures.positive c.in_ok-lcm.ensures;
  small = next_small c.loop-place.lcm c.den.result c.in_ok-lcm.lcm c.in_ok-lcm.ensures;
}
