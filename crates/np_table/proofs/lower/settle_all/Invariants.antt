use Rattle.std.proofs.Common.{◌≡◌, ◌≤◌, ◌+◌, length, drop}
use Rattle.np_table.specs.Lowering.{all_settled, height}
use Rattle.np_table.specs.Waiting.{size, IsWaiting}
use Rattle.np_table.proofs.lower.settle_all.Given as goal

abbrev pub invariant-loop-step : goal.invariant-loop-step
invariant-loop-step l = record {
  rest : all_settled l.flat l.units l.steps l.initial.entries.items l.initial.waiting.marks.items ≡ all_settled l.flat l.units (drop l.step-index l.steps) l.entries.items l.waiting.marks.items;
  count : length l.entries.items ≡ length l.flat.subgoals;
  marks : length l.waiting.marks.items ≡ length l.flat.subgoals;
  waiting : IsWaiting l.waiting;
  fewer : height l.entries.items + height l.entries.items + size l.waiting ≤ height l.initial.entries.items + height l.initial.entries.items + size l.initial.waiting;
}
