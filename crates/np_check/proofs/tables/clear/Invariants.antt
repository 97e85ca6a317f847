use Rattle.std.proofs.Common.{◌≡◌, length, All, Some}
use Rattle.np_check.proofs.tables.clear.Given as goal

abbrev pub invariant-loop : goal.invariant-loop
invariant-loop l = record {
  count : length l.numbers.items ≡ l.counter;
  zeros : All (λ e. e ≡ Some 0) l.numbers.items;
}
