use Rattle.std.proofs.Common.{map}
use Rattle.np_check.proofs.Ascending.{IsRest}
use Rattle.np_check.proofs.tables.are_ascending.Given as goal

abbrev pub invariant-loop-subgoal : goal.invariant-loop-subgoal
invariant-loop-subgoal l = IsRest l.limit (map (λ x. x.0) l.listed) l.subgoal-index l.least
