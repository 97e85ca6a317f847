use Rattle.std.proofs.Common.{◌≡◌, take}
use Rattle.np_flat.specs.Flats.{IsAscending}
use Rattle.np_flat.specs.States.{put_all}
use Rattle.np_flat.proofs.numbers.put_all.Given as goal

abbrev pub invariant-loop-number : goal.invariant-loop-number
invariant-loop-number l = record {
  put : l.numbers.items ≡ put_all (take l.number-index l.more) l.initial.numbers.items;
  ascending : IsAscending l.numbers.items;
}
