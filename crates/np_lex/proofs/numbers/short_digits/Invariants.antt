use Rattle.std.proofs.Common.{◌≡◌, ◌+◌, ◌-◌, ◌≤◌, length, take, drop}
use Rattle.std.specs.List.{prefix_len}
use Rattle.std.specs.Str.Parse.{AllDigits, digits_value}
use Rattle.np_lex.specs.FirstToken.{is_digit}
use Rattle.np_lex.proofs.numbers.short_digits.Given as goal

abbrev pub invariant-loop-count : goal.invariant-loop-count
invariant-loop-count l = record {
  in_range : l.count ≤ length l.bytes;
  few : l.count ≤ 18;
  so_far : l.count + prefix_len is_digit (drop l.count l.bytes) ≡ prefix_len is_digit l.bytes;
  digits : AllDigits 10 (take l.count l.bytes);
  value : l.number ≡ digits_value 10 (take l.count l.bytes);
}

abbrev pub decreases-loop-count : goal.decreases-loop-count
decreases-loop-count l = length l.bytes - l.count
