use Rattle.std.proofs.Common.{◌≡◌, ◌++◌, drop, Ok}
use Rattle.np_linear.specs.Answers.{and_then}
use Rattle.np_linear.specs.Linears.{terms_times}
use Rattle.np_linear.proofs.sums.terms_times.Given as goal

-- those so far, and then those of the rest
abbrev pub invariant-loop-pair : goal.invariant-loop-pair
invariant-loop-pair l =
    terms_times l.over l.by l.terms ≡ and_then (terms_times l.over l.by (drop l.pair-index l.terms)) (λ ys. Ok (l.new ++ ys))
