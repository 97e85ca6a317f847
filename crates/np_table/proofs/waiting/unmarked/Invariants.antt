use Rattle.std.proofs.Common.{◌≡◌, length, All, false}
use Rattle.np_table.proofs.waiting.unmarked.Given as goal

abbrev pub invariant-loop : goal.invariant-loop
invariant-loop l = record {
  count : length l.marks.items ≡ l.counter;
  none : All (λ b. b ≡ false) l.marks.items;
}
