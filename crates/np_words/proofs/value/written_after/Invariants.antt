use Rattle.std.proofs.Common.{◌≡◌, ◌+◌, ◌*◌, ◌^◌, ◌≤◌, length, drop}
use Rattle.np_words.specs.Numbers.{written_after}
use Rattle.np_words.specs.declared.read.wide.TheConstants.{MOST_DIGITS}
use Rattle.np_words.proofs.value.written_after.Given as goal

abbrev pub invariant-loop-byte : goal.invariant-loop-byte
invariant-loop-byte l = record {
  value : written_after l.number (drop l.byte-index l.digits) ≡ written_after l.before l.digits;
  within : (l.number + 1) * 10 ^ length (drop l.byte-index l.digits) ≤ 10 ^ MOST_DIGITS;
}
