use Rattle.std.proofs.Common.{map, get_or, ◌∙◌, arith}
use Rattle.np_simplex.specs.Packed.{slot_ray_number}
use Rattle.np_simplex.specs.Views.{line}
use Rattle.np_simplex.proofs.Made.{pushed_map}
use Rattle.np_simplex.proofs.answer.ray_weights.Goals as goal

pub loop-k-preserved : goal.loop-k-preserved
loop-k-preserved g c = record {
  made = pushed_map g.A.N.Scalar.value c.loop-k.made.items c.push.new.self.items
      (slot_ray_number (get_or c.args.table.now.columns.items c.args.slot 0) c.args.slot
      (map (line g.A.N.Scalar.value) c.args.table.now.rows.items)) c.loop-k.k
      c.in_ok-ray_weight.field-0 c.in_ok-push.ensures.items c.in_ok-ray_weight.ensures.value c.loop-k.invariant.made;
  same = c.in_ok-ray_weight.ensures.same ∙ c.loop-k.invariant.same;
  later = omega (arith, c.in_ok-ray_weight.ensures.later, c.loop-k.invariant.later);
}
