-- Counts of lines.
use Rattle.std.specs.Prelude.{◌≡◌, ℕ, List, not}
use Rattle.std.specs.List.{count_by, suffix_len}
use Rattle.np_lex.specs.declared.lines.Lines.{Lines}
use Rattle.np_lex.specs.Blanks.{is_line_feed}

-- the line feeds of the bytes, and the bytes since the last of them
pub record CountsLines (lines : Lines) (bytes : List ℕ) : Type 0 where
  pub feeds : lines.feeds ≡ count_by is_line_feed bytes
  pub columns : lines.columns ≡ suffix_len (λ b. not (is_line_feed b)) bytes
