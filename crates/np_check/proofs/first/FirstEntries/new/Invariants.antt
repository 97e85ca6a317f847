use Rattle.np_check.specs.First.{ArePlaced}
use Rattle.np_check.proofs.first.FirstEntries.new.Given as goal

abbrev pub invariant-loop-number : goal.invariant-loop-number
invariant-loop-number l = ArePlaced l.numbers l.distinct l.entries l.number
