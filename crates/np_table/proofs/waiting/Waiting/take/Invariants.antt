use Rattle.std.proofs.Common.{◌≡◌, ◌≤◌}
use Rattle.np_table.specs.Waiting.{size, IsWaiting}
use Rattle.np_table.proofs.waiting.Waiting.take.Given as goal

abbrev pub invariant-loop-subgoal : goal.invariant-loop-subgoal
invariant-loop-subgoal l = record {
  marks : l.self.marks.items ≡ l.initial.self.marks.items;
  waiting : IsWaiting l.self;
  less : size l.self ≤ size l.initial.self;
}

abbrev pub decreases-loop-subgoal : goal.decreases-loop-subgoal
decreases-loop-subgoal l = size l.self
