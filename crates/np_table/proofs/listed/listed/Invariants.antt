use Rattle.np_table.specs.Tables.{at}
use Rattle.np_table.specs.Listing.{AreListed}
use Rattle.np_table.proofs.listed.listed.Given as goal

abbrev pub invariant-loop-subgoal : goal.invariant-loop-subgoal
invariant-loop-subgoal l = AreListed (at l.entries) l.subgoal l.numbers.items
