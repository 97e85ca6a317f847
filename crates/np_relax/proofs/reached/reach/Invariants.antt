use Rattle.std.proofs.Common.{◌+◌, length}
use Rattle.np_relax.specs.Work.{off, IsGoing, IsWatching}
use Rattle.np_relax.proofs.reached.reach.Given as goal

abbrev pub invariant-loop-step : goal.invariant-loop-step
invariant-loop-step l = record {
  going : IsGoing l.flat l.state l.removed l.can.items l.work.items l.step;
  watched : IsWatching l.flat l.can.items l.watched.items;
}

abbrev pub invariant-loop-subgoal : goal.invariant-loop-subgoal
invariant-loop-subgoal l = record {
  going : IsGoing l.flat l.state l.removed l.can.items l.work.items l.count;
  watched : IsWatching l.flat l.can.items l.watched.items;
}

abbrev pub decreases-loop-subgoal : goal.decreases-loop-subgoal
decreases-loop-subgoal l = off l.can.items + off l.can.items + length l.work.items
