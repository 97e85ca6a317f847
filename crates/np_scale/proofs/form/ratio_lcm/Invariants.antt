use Rattle.std.proofs.Common.{◌≡◌, ◌<◌, fold, map, drop}
use Rattle.np_frac.specs.Fractions.{times}
use Rattle.np_frac.specs.Checked.{reciprocal}
use Rattle.np_flat.specs.declared.limits.TheConstants.{COEFFICIENT_SIZE}
use Rattle.np_scale.specs.Wholes.{lcm}
use Rattle.np_scale.specs.Code.{ratio_lcm}
use Rattle.np_scale.proofs.form.ratio_lcm.Given as goal

abbrev pub invariant-loop-place : goal.invariant-loop-place
invariant-loop-place l = record {
  whole : fold lcm l.lcm (map (λ c. (times c.1 (reciprocal l.first)).den) (drop l.place l.coefficients)) ≡ ratio_lcm l.first l.coefficients;
  positive : 0 < l.lcm;
  small : l.lcm < COEFFICIENT_SIZE;
}
