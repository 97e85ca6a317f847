use Rattle.std.proofs.Common.{◌≡◌, take, []}
use Rattle.std.specs.List.{flat_map}
use Rattle.np_model.specs.Ground.{same_atom}
use Rattle.np_scale.specs.Tables.{each_once, atoms_in}
use Rattle.np_scale.specs.Code.{pointed}
use Rattle.np_scale.proofs.numbering.Facts.new.Given as goal

abbrev pub invariant-loop-step : goal.invariant-loop-step
invariant-loop-step l = pointed l.set.keys ≡ each_once same_atom [] (flat_map atoms_in (flat_map (λ b. b.needs) (take l.step-index l.step-items)))
