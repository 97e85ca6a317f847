use Rattle.std.proofs.Common.{◌≡◌, length, All, None}
use Rattle.np_table.proofs.given.clear_reaches.Given as goal

abbrev pub invariant-loop : goal.invariant-loop
invariant-loop l = record {
  count : length l.reaches.items ≡ l.counter;
  none : All (λ e. e ≡ None) l.reaches.items;
}
