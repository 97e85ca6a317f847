use Rattle.std.proofs.Common.{◌<◌, ◌^◌, pos, unsigned_abs, get_or, arith}
use Rattle.std.proofs.lemmas.Int.{to_z-of_z}
use mir.Syntax.{w128}
use mir.Val.{to_z, SFits}
use Rattle.np_flat.proofs.Changes.{fits_wide}
use Rattle.np_flat.specs.Achieving.{net_terms}
use Rattle.np_flat.proofs.NetSums.{net_more, product_more}
use Rattle.np_flat.proofs.net.net_terms.Goals as goal

pub loop-value-preserved : goal.loop-value-preserved
loop-value-preserved c =
    let term = get_or c.args.terms.now c.loop-value.value-index (0, pos 0) in
    let sum = to_z w128 c.loop-value.sum-bits in
    let small : unsigned_abs term.1 < 2 ^ 31 = c.requires.terms c.loop-value.value-index (0, pos 0) c.loop-value-test.true in
    let term_fits : SFits w128 term.1 = fits_wide term.1 (omega arith) in
    let change_fits : SFits w128 c.change_on.result = record { sfits = c.change_on.type_inv } in
    let result_fits : SFits w128 c.with_term-sum.result = record { sfits = c.with_term-sum.type_inv } in
    let is = rw (to_z-of_z w128 term.1 term_fits, to_z-of_z w128 c.change_on.result change_fits) at c.with_term-sum.ensures in
    record {
      value = rw (to_z-of_z w128 c.with_term-sum.result result_fits, is, c.change_on.ensures.value)
          (net_more c.args.changes.now c.args.terms.now c.loop-value.value-index (0, pos 0) sum (net_terms c.args.changes.now c.args.terms.now) c.loop-value-test.true c.loop-value.invariant.value);
      small = rw (to_z-of_z w128 c.with_term-sum.result result_fits, is) (product_more sum term.1 c.change_on.result c.loop-value.value-index c.loop-value.invariant.small small c.change_on.ensures.small);
    }
