use Rattle.np_bind.proofs.BoundIsBound.{bound_is_bound}
use Rattle.np_bind.proofs.laws.bound_is_bound.Goals as goal

pub returns : goal.returns
returns c = bound_is_bound
