use Rattle.std.proofs.Common.{◌+◌}
use Rattle.np_relax.specs.Closed.{on}
use Rattle.np_table.specs.Lowering.{height, IsFalling}
use Rattle.np_table.specs.Waiting.{size, IsWaiting}
use Rattle.np_table.proofs.lower.entries.Given as goal

abbrev pub invariant-loop-step : goal.invariant-loop-step
invariant-loop-step l = record {
  falling : IsFalling l.flat l.state (on l.can) l.units l.entries.items l.waiting.marks.items l.step;
  waiting : IsWaiting l.waiting;
}

abbrev pub invariant-loop-subgoal : goal.invariant-loop-subgoal
invariant-loop-subgoal l = record {
  falling : IsFalling l.flat l.state (on l.can) l.units l.entries.items l.waiting.marks.items l.count;
  waiting : IsWaiting l.waiting;
}

abbrev pub decreases-loop-subgoal : goal.decreases-loop-subgoal
decreases-loop-subgoal l = height l.entries.items + height l.entries.items + size l.waiting
