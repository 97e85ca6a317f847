use Rattle.std.proofs.Common.{◌≡◌, ◌≤◌, ◌+◌, length, drop}
use Rattle.np_table.specs.Lowering.{lowered, height}
use Rattle.np_table.specs.Waiting.{size, IsWaiting}
use Rattle.np_table.proofs.lower.lower.Given as goal

abbrev pub invariant-loop-subgoal : goal.invariant-loop-subgoal
invariant-loop-subgoal l = record {
  rest : lowered l.flat l.units l.step l.reach l.subgoals l.initial.entries.items l.initial.waiting.marks.items ≡ lowered l.flat l.units l.step l.reach (drop l.subgoal-index l.subgoals) l.entries.items l.waiting.marks.items;
  count : length l.entries.items ≡ length l.flat.subgoals;
  marks : length l.waiting.marks.items ≡ length l.flat.subgoals;
  waiting : IsWaiting l.waiting;
  fewer : height l.entries.items + height l.entries.items + size l.waiting ≤ height l.initial.entries.items + height l.initial.entries.items + size l.initial.waiting;
}
