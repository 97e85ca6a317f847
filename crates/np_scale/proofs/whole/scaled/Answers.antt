use Rattle.std.proofs.Common.{◌≡◌, ◌∙◌, ◌<◌, ◌≤◌, ◌/◌, pos, ◌*ℤ◌, ap, Some, rules, arith, unsigned_abs, to_z, of_z}
use Rattle.std.specs.Prelude.{FitsSigned}
use Rattle.std.specs.Int.{w128}
use Rattle.std.proofs.lemmas.Int.{to_z-of_z}
use Rattle.np_frac.specs.Checked.{fitting}
use Rattle.np_flat.specs.declared.limits.TheConstants.{CHANGE_SIZE}
use Rattle.np_scale.specs.Wholes.{scaled_number}
use Rattle.np_scale.proofs.Scaled.{scaled_from, fitting_some, small_none, small_within, small_past}
use Rattle.np_scale.proofs.whole.scaled.Goals as goal

pub returns-in_err-whole : goal.returns-in_err-whole
returns-in_err-whole c =
    let f : FitsSigned w128 c.num.result = search rules in
    let z : to_z w128 (of_z w128 c.num.result) *ℤ pos (c.args.unit / c.den.result) ≡ scaled_number c.args.unit c.args.number.now =
    scaled_from c.args.unit c.args.number.now (to_z w128 (of_z w128 c.num.result)) c.den.result c.requires.multiple (to_z-of_z w128 c.num.result f ∙ c.num.ensures.value) c.den.ensures.value in
    c.from_residual.ensures ∙ small_none CHANGE_SIZE (scaled_number c.args.unit c.args.number.now) (omega arith) (c.in_err-whole.ensures ∙ ap fitting z)

pub returns-then-unsigned_abs-lt-CHANGE_SIZE : goal.returns-then-unsigned_abs-lt-CHANGE_SIZE
returns-then-unsigned_abs-lt-CHANGE_SIZE c =
    let f : FitsSigned w128 c.num.result = search rules in
    let z : to_z w128 (of_z w128 c.num.result) *ℤ pos (c.args.unit / c.den.result) ≡ scaled_number c.args.unit c.args.number.now =
    scaled_from c.args.unit c.args.number.now (to_z w128 (of_z w128 c.num.result)) c.den.result c.requires.multiple (to_z-of_z w128 c.num.result f ∙ c.num.ensures.value) c.den.ensures.value in
    let g : FitsSigned w128 c.in_ok-whole.whole = search rules in
    let w : to_z w128 (of_z w128 c.in_ok-whole.whole) ≡ scaled_number c.args.unit c.args.number.now =
    to_z-of_z w128 c.in_ok-whole.whole g ∙ fitting_some (to_z w128 (of_z w128 c.num.result) *ℤ pos (c.args.unit / c.den.result)) c.in_ok-whole.whole c.in_ok-whole.ensures ∙ z in
    let s : unsigned_abs (scaled_number c.args.unit c.args.number.now) < CHANGE_SIZE = omega (arith, c.unsigned_abs.ensures.value, ap unsigned_abs w) in
    ap Some w ∙ small_within CHANGE_SIZE (scaled_number c.args.unit c.args.number.now) s

pub returns-else-unsigned_abs-lt-CHANGE_SIZE : goal.returns-else-unsigned_abs-lt-CHANGE_SIZE
returns-else-unsigned_abs-lt-CHANGE_SIZE c =
    let f : FitsSigned w128 c.num.result = search rules in
    let z : to_z w128 (of_z w128 c.num.result) *ℤ pos (c.args.unit / c.den.result) ≡ scaled_number c.args.unit c.args.number.now =
    scaled_from c.args.unit c.args.number.now (to_z w128 (of_z w128 c.num.result)) c.den.result c.requires.multiple (to_z-of_z w128 c.num.result f ∙ c.num.ensures.value) c.den.ensures.value in
    let g : FitsSigned w128 c.in_ok-whole.whole = search rules in
    let w : to_z w128 (of_z w128 c.in_ok-whole.whole) ≡ scaled_number c.args.unit c.args.number.now =
    to_z-of_z w128 c.in_ok-whole.whole g ∙ fitting_some (to_z w128 (of_z w128 c.num.result) *ℤ pos (c.args.unit / c.den.result)) c.in_ok-whole.whole c.in_ok-whole.ensures ∙ z in
    let s : CHANGE_SIZE ≤ unsigned_abs (scaled_number c.args.unit c.args.number.now) = omega (arith, c.unsigned_abs.ensures.value, ap unsigned_abs w) in
    small_past CHANGE_SIZE (scaled_number c.args.unit c.args.number.now) s
