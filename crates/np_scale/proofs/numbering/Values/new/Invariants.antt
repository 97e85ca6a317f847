use Rattle.std.proofs.Common.{◌≡◌, take, []}
use Rattle.std.specs.List.{flat_map}
use Rattle.np_model.specs.Ground.{same_term}
use Rattle.np_scale.specs.Tables.{each_once, terms_in}
use Rattle.np_scale.specs.Code.{pointed}
use Rattle.np_scale.proofs.numbering.Values.new.Given as goal

abbrev pub invariant-loop-step : goal.invariant-loop-step
invariant-loop-step l = pointed l.set.keys ≡ each_once same_term [] (flat_map terms_in (flat_map (λ b. b.needs) (take l.step-index l.step-items)))
