use Rattle.std.proofs.Common.{map}
use Rattle.np_simplex.specs.Tableau.{nought}
use Rattle.np_simplex.proofs.Made.{pushed_more}
use Rattle.np_simplex.proofs.start.push_zeros.Goals as goal

pub loop-k-preserved : goal.loop-k-preserved
loop-k-preserved g c = pushed_more g.N.Scalar.value c.loop-k.numbers.items c.push.new.self.items (map g.N.Scalar.value c.args.numbers.now.items)
    (λ i. nought) c.loop-k.k c.zero.result
    c.in_ok-push.ensures.items c.zero.ensures c.loop-k.invariant
