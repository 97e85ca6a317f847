use Rattle.np_scale.proofs.FlatIsFlat.{flat_is_flat}
use Rattle.np_scale.proofs.laws.flat_is_flat.Goals as goal

pub returns : goal.returns
returns c = flat_is_flat
