use Rattle.std.proofs.Common.{◌≡◌, ◌+◌, ◌-◌, ◌≤◌, length, drop}
use Rattle.std.specs.List.{prefix_len}
use Rattle.np_lex.specs.FirstToken.{is_digit}
use Rattle.np_words.proofs.read.numbers.digits_length.Given as goal

abbrev pub invariant-loop-n : goal.invariant-loop-n
invariant-loop-n l = record {
  in_range : l.n ≤ length l.text;
  so_far : l.n + prefix_len is_digit (drop l.n l.text) ≡ prefix_len is_digit l.text;
}

abbrev pub decreases-loop-n : goal.decreases-loop-n
decreases-loop-n l = length l.text - l.n
