use Rattle.np_check.specs.Verdicts.{AreGood}
use Rattle.np_check.proofs.check.first_fault.Given as goal

abbrev pub invariant-loop-number : goal.invariant-loop-number
invariant-loop-number l = AreGood l.flat l.certificate l.number
