use Rattle.std.proofs.Common.{◌≡◌, drop}
use Rattle.indexmap.specs.IndexMap as maps
use Rattle.np_model.specs.declared.task.Term.{Term}
use Rattle.np_model.specs.Ground.{same_term}
use Rattle.np_model.specs.States.{value_among}
use Rattle.np_run.proofs.kept_state.value_map.Given as goal

abbrev pub invariant-loop-number : goal.invariant-loop-number
invariant-loop-number l = (t : Term) → maps.get same_term l.map t ≡ value_among (drop l.number l.values) t
