use Rattle.std.proofs.Common.{◌≡◌, length, All, Some}
use Rattle.np_relax.proofs.reached.first_needs.Given as goal

abbrev pub invariant-loop : goal.invariant-loop
invariant-loop l = record {
  count : length l.watched.items ≡ l.counter;
  first : All (λ w. w ≡ Some 0) l.watched.items;
}
