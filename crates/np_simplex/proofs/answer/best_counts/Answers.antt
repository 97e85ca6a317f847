use Rattle.std.proofs.Common.{◌+◌, map, ap, ◌∙◌, arith}
use Rattle.np_frac.specs.Fractions.{minus}
use Rattle.np_simplex.specs.Tableau.{nought}
use Rattle.np_simplex.specs.Packed.{stored_number}
use Rattle.np_simplex.proofs.Made.{pushed_map}
use Rattle.np_simplex.proofs.answer.best_counts.Goals as goal

pub loop-k-preserved : goal.loop-k-preserved
loop-k-preserved g c = record {
  made = pushed_map g.A.N.Scalar.value c.loop-k.made.items c.push.new.self.items
      (λ j. minus nought (stored_number c.args.table.now.columns.items (map g.A.N.Scalar.value c.args.table.now.top.items)
      (c.args.rows + j))) c.loop-k.k
      c.in_ok-count.field-0 c.in_ok-push.ensures.items
      (c.in_ok-count.ensures.value
      ∙ ap (λ x. minus nought (stored_number x (map g.A.N.Scalar.value c.as_slice-in-loop-k.result.now)
      (c.args.rows + c.loop-k.k))) c.as_slice.ensures.value
      ∙ ap (λ x. minus nought (stored_number c.args.table.now.columns.items (map g.A.N.Scalar.value x)
      (c.args.rows + c.loop-k.k))) c.as_slice-in-loop-k.ensures.value)
      c.loop-k.invariant.made;
  same = c.in_ok-count.ensures.same ∙ c.loop-k.invariant.same;
  later = omega (arith, c.in_ok-count.ensures.later, c.loop-k.invariant.later);
}
