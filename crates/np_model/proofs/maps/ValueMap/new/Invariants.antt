use Rattle.std.proofs.Common.{drop}
use Rattle.np_model.specs.Maps.{HasValues}
use Rattle.np_model.proofs.maps.ValueMap.new.Given as goal

abbrev pub invariant-loop-number : goal.invariant-loop-number
invariant-loop-number l = HasValues l.map (drop l.number l.values)
