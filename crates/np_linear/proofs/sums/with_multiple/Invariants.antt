use Rattle.std.proofs.Common.{◌≡◌, ◌++◌, take, drop, Ok}
use Rattle.np_linear.specs.Answers.{and_then}
use Rattle.np_linear.specs.Linears.{with_multiple}
use Rattle.np_linear.proofs.sums.with_multiple.Given as goal

-- the terms before stay
abbrev pub invariant-loop-at : goal.invariant-loop-at
invariant-loop-at l =
    with_multiple l.zeros l.up l.term l.by l.pair-items
    ≡ and_then (with_multiple l.zeros l.up l.term l.by (drop l.at l.pair-items)) (λ ys. Ok (take l.at l.pair-items ++ ys))
