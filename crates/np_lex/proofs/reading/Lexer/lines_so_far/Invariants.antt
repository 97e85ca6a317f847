use Rattle.std.proofs.Common.{◌≡◌, not, take}
use Rattle.std.specs.List.{count_by, suffix_len}
use Rattle.np_lex.specs.Blanks.{is_line_feed}
use Rattle.np_lex.proofs.reading.Lexer.lines_so_far.Given as goal

abbrev pub invariant-loop-offset : goal.invariant-loop-offset
invariant-loop-offset l = record {
  feeds : l.feeds ≡ count_by is_line_feed (take l.offset l.self.bytes.now);
  columns : l.columns ≡ suffix_len (λ b. not (is_line_feed b)) (take l.offset l.self.bytes.now);
}
