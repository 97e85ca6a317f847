use Rattle.std.proofs.Common.{◌≡◌, drop}
use Rattle.np_cases.specs.Graphs.{bound_at}
use Rattle.np_cases.proofs.space.bound_at.Given as goal

abbrev pub invariant-loop-at : goal.invariant-loop-at
invariant-loop-at l = bound_at (drop l.at-index l.table) l.place ≡ bound_at l.table l.place
