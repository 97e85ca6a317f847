use Rattle.std.proofs.Common.{◌<◌, ◌≤◌, ◌^◌, ℤ, pos, unsigned_abs, length, sym, ◌∙◌, subst}
use mir.Syntax.{w128}
use mir.Val.{to_z}
use Rattle.std.proofs.lemmas.Int.{to_z-of_z}
use Rattle.np_flat.proofs.Forms.{sum_small}
use Rattle.np_flat.proofs.NetSums.{prefix_small}
use Rattle.np_flat.proofs.Terms.{number_within, coefficient_small, coefficient_read, term_more}
use Rattle.np_flat.proofs.parts.Form.value.Goals as goal

pub bounds-values-number : goal.bounds-values-number
bounds-values-number c = number_within c.args.state.now.values c.as_slice-values.result.now c.args.self.now c.as_slice-number-items.result.now c.loop-number.number-index (0, pos 0) c.requires.form c.as_slice-values.ensures c.as_slice-number-items.ensures c.loop-number-test.true

pub with_term-sum-requires-clause-sum : goal.with_term-sum-requires-clause-sum
with_term-sum-requires-clause-sum c =
    subst (λ (z : ℤ). unsigned_abs z ≤ 2 ^ 126) (sym c.loop-number.invariant)
    (sum_small c.args.self.now c.args.state.now.values c.loop-number.number-index c.requires.form c.requires.small
    (subst (λ ts. c.loop-number.number-index < length ts) c.as_slice-number-items.ensures c.loop-number-test.true))

pub with_term-sum-requires-clause-coefficient : goal.with_term-sum-requires-clause-coefficient
with_term-sum-requires-clause-coefficient c =
    subst (λ (z : ℤ). unsigned_abs z ≤ 2 ^ 31)
    (sym (coefficient_read c.args.state.now.values c.args.self.now c.as_slice-number-items.result.now c.loop-number.number-index (0, pos 0) c.requires.form c.as_slice-number-items.ensures c.loop-number-test.true))
    (coefficient_small c.args.state.now.values c.args.self.now c.as_slice-number-items.result.now c.loop-number.number-index (0, pos 0) c.requires.form c.as_slice-number-items.ensures c.loop-number-test.true)

pub loop-number-preserved : goal.loop-number-preserved
loop-number-preserved c =
    to_z-of_z w128 c.with_term-sum.result (record { sfits = c.with_term-sum.type_inv })
    ∙ c.with_term-sum.ensures
    ∙ term_more c.args.state.now.values c.as_slice-values.result.now c.args.self.now c.as_slice-number-items.result.now c.loop-number.number-index (0, pos 0) (to_z w128 c.loop-number.sum-bits) c.requires.form c.requires.small c.as_slice-values.ensures c.as_slice-number-items.ensures c.loop-number-test.true c.loop-number.invariant

pub returns-clause-small : goal.returns-clause-small
returns-clause-small c =
    subst (λ (z : ℤ). unsigned_abs z < 2 ^ 125) (sym c.loop-number.invariant) (prefix_small c.args.self.now c.args.state.now.values c.loop-number.number-index c.requires.form c.requires.small)
