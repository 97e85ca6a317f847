use Rattle.std.proofs.Common.{◌<◌, ◌≤◌, ◌^◌, ℤ, pos, unsigned_abs, length, refl, sym, ◌∙◌, subst}
use mir.Syntax.{w128}
use mir.Val.{to_z}
use Rattle.std.proofs.lemmas.Int.{to_z-of_z}
use Rattle.np_flat.proofs.Forms.{sum_small}
use Rattle.np_flat.proofs.Terms.{number_within, coefficient_small, coefficient_read, term_more}
use Rattle.np_blind.proofs.holds.value.Goals as goal

pub bounds-cells-number : goal.bounds-cells-number
bounds-cells-number c = number_within c.args.cells.now c.args.cells.now c.args.form.now c.as_slice-number-items.result.now c.loop-number.number-index (0, pos 0) c.requires.form refl c.as_slice-number-items.ensures c.loop-number-test.true

pub with_term-sum-requires-clause-sum : goal.with_term-sum-requires-clause-sum
with_term-sum-requires-clause-sum c =
    subst (λ (z : ℤ). unsigned_abs z ≤ 2 ^ 126) (sym c.loop-number.invariant)
    (sum_small c.args.form.now c.args.cells.now c.loop-number.number-index c.requires.form c.requires.small
    (subst (λ ts. c.loop-number.number-index < length ts) c.as_slice-number-items.ensures c.loop-number-test.true))

pub with_term-sum-requires-clause-coefficient : goal.with_term-sum-requires-clause-coefficient
with_term-sum-requires-clause-coefficient c =
    subst (λ (z : ℤ). unsigned_abs z ≤ 2 ^ 31)
    (sym (coefficient_read c.args.cells.now c.args.form.now c.as_slice-number-items.result.now c.loop-number.number-index (0, pos 0) c.requires.form c.as_slice-number-items.ensures c.loop-number-test.true))
    (coefficient_small c.args.cells.now c.args.form.now c.as_slice-number-items.result.now c.loop-number.number-index (0, pos 0) c.requires.form c.as_slice-number-items.ensures c.loop-number-test.true)

pub loop-number-preserved : goal.loop-number-preserved
loop-number-preserved c =
    to_z-of_z w128 c.with_term-sum.result (record { sfits = c.with_term-sum.type_inv })
    ∙ c.with_term-sum.ensures
    ∙ term_more c.args.cells.now c.args.cells.now c.args.form.now c.as_slice-number-items.result.now c.loop-number.number-index (0, pos 0) (to_z w128 c.loop-number.sum-bits) c.requires.form c.requires.small refl c.as_slice-number-items.ensures c.loop-number-test.true c.loop-number.invariant
