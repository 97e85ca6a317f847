use Rattle.std.proofs.Common.{◌∙◌, ap, sym}
use Rattle.np_scale.specs.Scaling.{scale_task}
use Rattle.np_scale.proofs.scaling.scale.Goals as goal

pub new-requires : goal.new-requires
new-requires c = c.flat_is_flat.ensures c.args.bound.now c.in_ok-parts.parts c.parts.ensures.kept (ap scale_task (sym c.parts.ensures.parts) ∙ c.in_ok-parts.ensures)
