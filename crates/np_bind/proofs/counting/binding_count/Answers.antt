use Rattle.std.proofs.Common.{◌≡◌, ◌∙◌, ◌*◌, ◌≤◌, min, arith, add-one}
use Rattle.np_bind.proofs.Counts.{counted_more}
use Rattle.np_bind.proofs.counting.binding_count.Goals as goal

pub loop-wanted-preserved : goal.loop-wanted-preserved
loop-wanted-preserved c =
    let new : c.min-count.result ≡ min 4194305 (c.loop-wanted.count * c.fitting_count.result) = omega (arith, c.saturating_mul.ensures, c.min-count.ensures) in
    let few : c.min-count.result ≤ 4194305 = omega arith in
    rw add-one (
      c.loop-wanted.invariant.0
          ∙ counted_more c.args.task.now c.args.types.now c.loop-wanted.wanted-index c.loop-wanted.count c.fitting_count.result c.min-count.result c.loop-wanted-test.true c.fitting_count.ensures new,
      few,
    )
