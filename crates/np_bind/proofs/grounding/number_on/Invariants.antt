use Rattle.std.proofs.Common.{◌≡◌, drop}
use Rattle.np_model.specs.States.{value_among}
use Rattle.np_bind.proofs.grounding.number_on.Given as goal

abbrev pub invariant-loop-change : goal.invariant-loop-change
invariant-loop-change l = value_among l.changes l.term ≡ value_among (drop l.change-index l.changes) l.term
