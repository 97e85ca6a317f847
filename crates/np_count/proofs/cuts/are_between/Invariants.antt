use Rattle.std.proofs.Common.{◌≡◌, drop}
use Rattle.np_count.specs.Rows.{are_between}
use Rattle.np_count.proofs.cuts.are_between.Given as goal

abbrev pub invariant-loop-number : goal.invariant-loop-number
invariant-loop-number l = are_between l.limit 0 l.numbers ≡ are_between l.limit l.least (drop l.number-index l.numbers)
