use Rattle.std.proofs.Common.{◌≡◌, ◌+◌, ◌-◌, ◌≤◌, length, drop}
use Rattle.np_lex.specs.Blanks.{blank_length}
use Rattle.np_lex.proofs.blanks.blank_length.Given as goal

abbrev pub invariant-loop-n : goal.invariant-loop-n
invariant-loop-n l = record {
  in_range : l.n ≤ length l.bytes;
  so_far : l.n + blank_length (drop l.n l.bytes) ≡ blank_length l.bytes;
}

abbrev pub decreases-loop-n : goal.decreases-loop-n
decreases-loop-n l = length l.bytes - l.n
