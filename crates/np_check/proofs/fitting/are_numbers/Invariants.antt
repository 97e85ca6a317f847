use Rattle.np_check.proofs.Ascending.{IsRest}
use Rattle.np_check.proofs.fitting.are_numbers.Given as goal

abbrev pub invariant-loop-number : goal.invariant-loop-number
invariant-loop-number l = IsRest l.limit l.numbers l.number-index l.least
