use Rattle.std.proofs.Common.{◌≡◌, length, take}
use Rattle.np_flat.proofs.step.overwrite.Given as goal

abbrev pub invariant-loop-number : goal.invariant-loop-number
invariant-loop-number l = record {
  written : take l.number l.values ≡ take l.number l.others;
  many : length l.values ≡ length l.others;
}
