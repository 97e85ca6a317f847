use Rattle.std.proofs.Common.{◌≡◌, ◌+◌, drop}
use Rattle.std.specs.List.{position_or_len}
use Rattle.np_lex.specs.Blanks.{is_line_feed}
use Rattle.np_lex.proofs.blanks.line_length.Given as goal

abbrev pub invariant-loop-n : goal.invariant-loop-n
invariant-loop-n l = l.n + position_or_len is_line_feed (drop l.n l.bytes) ≡ position_or_len is_line_feed l.bytes
