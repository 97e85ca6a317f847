use Rattle.std.proofs.Common.{◌≡◌, ◌<◌, ℕ, true}
use Rattle.np_flat.specs.States.{holds}
use Rattle.np_table.specs.Tables.{at}
use Rattle.np_table.specs.Lowering.{unit_at}
use Rattle.np_table.specs.Given.{is_good}
use Rattle.np_table.proofs.given.are_good.Given as goal

abbrev pub invariant-loop-subgoal : goal.invariant-loop-subgoal
invariant-loop-subgoal l = (q : ℕ) → q < l.subgoal → is_good l.flat (holds l.flat l.state q) (at l.entries q) (at l.reaches q) (unit_at l.units q) q ≡ true
