use Rattle.std.proofs.Common.{◌≡◌, true, take}
use Rattle.np_scale.specs.Code.{whole_by, are_small}
use Rattle.np_scale.proofs.form.whole_terms.Given as goal

abbrev pub invariant-loop-number : goal.invariant-loop-number
invariant-loop-number l = record {
  terms : l.terms ≡ whole_by l.factor (take l.number-index l.coefficients);
  small : are_small (whole_by l.factor (take l.number-index l.coefficients)) ≡ true;
}
