use Rattle.np_scale.proofs.UnitIsUnit.{unit_is_unit}
use Rattle.np_scale.proofs.laws.unit_is_unit.Goals as goal

pub returns : goal.returns
returns c = unit_is_unit
