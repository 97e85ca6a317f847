use Rattle.np_check.specs.Verdicts.{AreValidBefore}
use Rattle.np_check.proofs.check.first_bad_proof.Given as goal

abbrev pub invariant-loop-number : goal.invariant-loop-number
invariant-loop-number l = AreValidBefore l.flat l.proofs l.number
