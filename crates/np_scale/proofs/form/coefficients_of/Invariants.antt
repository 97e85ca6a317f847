use Rattle.std.proofs.Common.{◌≡◌, map, drop}
use Rattle.np_model.specs.Ground.{same_term}
use Rattle.np_scale.specs.Tables.{number_of}
use Rattle.np_scale.specs.Forms.{by_number}
use Rattle.np_scale.specs.Code.{signed}
use Rattle.np_scale.proofs.form.coefficients_of.Given as goal

abbrev pub invariant-loop-place : goal.invariant-loop-place
invariant-loop-place l = l.coefficients.items ≡ by_number (map (λ t. (number_of same_term l.values t.0, signed l.negated t.1)) (drop l.place l.terms))
