use Rattle.np_bind.proofs.BoundIsBound.{bound_is_bound}
use Rattle.np_bind.proofs.binding.bind.Goals as goal

pub new-requires : goal.new-requires
new-requires c = bound_is_bound c.args.task.now c.in_ok-parts.parts c.parts.ensures.kept (rw c.parts.ensures.parts at c.in_ok-parts.ensures)
