use Rattle.std.proofs.Common.{ℕ, List, ◌+◌, ◌/◌, ◌∙◌, ap}
use Rattle.np_state.specs.Words.{row_of}
use Rattle.np_state.proofs.Rows.{zero_row}
use Rattle.np_state.proofs.bits.BitRow.new.Goals as goal

pub returns : goal.returns
returns c =
    ap (λ (w : List ℕ × ℕ). row_of w.0 w.1) c.in_ok-words.ensures
    ∙ zero_row (c.saturating_sub.result / 64 + 1) c.args.n (ap (λ k. k / 64 + 1) c.saturating_sub.ensures)
