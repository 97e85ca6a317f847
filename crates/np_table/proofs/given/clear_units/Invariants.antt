use Rattle.std.proofs.Common.{◌≡◌, length, All}
use Rattle.np_table.proofs.given.clear_units.Given as goal

abbrev pub invariant-loop : goal.invariant-loop
invariant-loop l = record {
  count : length l.units.items ≡ l.counter;
  most : All (λ u. u ≡ 4611686018427387903) l.units.items;
}
