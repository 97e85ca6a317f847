use Rattle.std.proofs.Common.{◌≡◌, drop}
use Rattle.np_linear.specs.Linears.{zero}
use Rattle.np_bind.specs.Grounding.{cost_over}
use Rattle.np_bind.proofs.grounding.cost_over.Given as goal

abbrev pub invariant-loop-pair : goal.invariant-loop-pair
invariant-loop-pair l = cost_over zero l.terms l.changes ≡ cost_over l.total (drop l.pair-index l.terms) l.changes
