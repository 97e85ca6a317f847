use Rattle.std.proofs.Common.{◌≡◌, length, drop}
use Rattle.np_relax.specs.Work.{turned}
use Rattle.np_relax.proofs.reached.turn_on.Given as goal

abbrev pub invariant-loop-number : goal.invariant-loop-number
invariant-loop-number l = record {
  rest : turned l.numbers l.initial.can.items l.initial.work.items ≡ turned (drop l.number-index l.numbers) l.can.items l.work.items;
  count : length l.can.items ≡ length l.initial.can.items;
}
