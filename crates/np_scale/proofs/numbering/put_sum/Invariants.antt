use Rattle.std.proofs.Common.{◌≡◌, take, ◌∷◌, []}
use Rattle.std.specs.List.{flat_map}
use Rattle.np_model.specs.Ground.{same_term}
use Rattle.np_scale.specs.Tables.{each_once}
use Rattle.np_scale.specs.Code.{pointed}
use Rattle.np_scale.proofs.numbering.put_sum.Given as goal

abbrev pub invariant-loop-term : goal.invariant-loop-term
invariant-loop-term l = pointed l.set.keys ≡ each_once same_term (pointed l.initial.set.keys) (flat_map (λ t. t.0 ∷ []) (take l.term-index l.terms))
