use Rattle.std.proofs.Common.{ℕ, ◌<◌, ◌≤◌}
use Rattle.np_model.specs.Types.{parent_of}
use Rattle.np_declared.specs.Ranks.{rank_of}
use Rattle.np_declared.proofs.ranks.never_fall.Given as goal

-- those so far don't
abbrev pub invariant-loop-number : goal.invariant-loop-number
invariant-loop-number l = (n : ℕ) → n < l.number → rank_of l.ranks n ≤ rank_of l.ranks (parent_of l.types n)
