-- Lines and columns are no more than the bytes before a place.
use Rattle.std.proofs.Common.{◌≡◌, ℕ, ◌+◌, ◌≤◌, List, take, not, arith, length-take}
use Rattle.std.specs.List.{count_by, suffix_len}
use Rattle.std.proofs.lemmas.List.Sums.{count_by-le-length, suffix_len-le-length}
use Rattle.np_lex.specs.declared.token.Place.{Place}
use Rattle.np_lex.specs.declared.lines.Lines.{Lines}
use Rattle.np_lex.specs.Blanks.{is_line_feed}
use Rattle.np_lex.specs.Lines.{CountsLines}
use Rattle.np_lex.specs.Tokens.{place_of}

-- no more lines than bytes
pub lines_le : (n : ℕ) (bs : List ℕ) → count_by is_line_feed (take n bs) ≤ n
lines_le n bs = omega (arith, count_by-le-length is_line_feed (take n bs), length-take n bs)

-- no more columns than bytes
pub columns_le : (n : ℕ) (bs : List ℕ) → suffix_len (λ b. not (is_line_feed b)) (take n bs) ≤ n
columns_le n bs = omega (arith, suffix_len-le-length (λ b. not (is_line_feed b)) (take n bs), length-take n bs)

-- the place at which so many lines were counted
pub place_at : (bs : List ℕ) (offset : ℕ) (lines : Lines) → CountsLines lines (take offset bs) → ◌≡◌ {A = Place} (record { offset = offset; line = lines.feeds + 1; column = lines.columns + 1 }) (place_of bs offset)
place_at bs offset lines counts = λ i. record { offset = offset; line = counts.feeds i + 1; column = counts.columns i + 1 }
