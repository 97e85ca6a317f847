use Rattle.std.proofs.Common.{◌≡◌, take}
use Rattle.std.specs.List.{flat_map}
use Rattle.np_model.specs.Ground.{same_term}
use Rattle.np_scale.specs.Tables.{each_once, terms_in}
use Rattle.np_scale.specs.Code.{pointed}
use Rattle.np_scale.proofs.numbering.put_terms.Given as goal

abbrev pub invariant-loop-condition : goal.invariant-loop-condition
invariant-loop-condition l = pointed l.set.keys ≡ each_once same_term (pointed l.initial.set.keys) (flat_map terms_in (take l.condition-index l.conditions))
