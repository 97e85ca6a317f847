use Rattle.std.proofs.Common.{◌≡◌, length, drop}
use Rattle.np_relax.specs.Work.{handled, IsWatching}
use Rattle.np_relax.proofs.reached.handle.Given as goal

abbrev pub invariant-loop-step : goal.invariant-loop-step
invariant-loop-step l = record {
  rest : handled l.flat l.removed l.steps l.initial.can.items l.initial.work.items ≡ handled l.flat l.removed (drop l.step-index l.steps) l.can.items l.work.items;
  count : length l.can.items ≡ length l.flat.subgoals;
  watched : IsWatching l.flat l.can.items l.watched.items;
}
