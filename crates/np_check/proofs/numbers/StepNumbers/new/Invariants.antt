use Rattle.np_check.specs.Walks.{AreNumbered}
use Rattle.np_check.proofs.numbers.StepNumbers.new.Given as goal

abbrev pub invariant-loop-number : goal.invariant-loop-number
invariant-loop-number l = AreNumbered l.numbers l.steps l.number
