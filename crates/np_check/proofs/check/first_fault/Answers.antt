use Rattle.std.proofs.Common.{◌≡◌, length, subst, arith}
use Rattle.np_check.specs.Verdicts.{AreGood}
use Rattle.np_check.proofs.check.first_fault.Goals as goal

pub returns : goal.returns
returns c =
    let entries = c.args.certificate.now.entries in
    let all : ◌≡◌ c.loop-number.number (length entries) = omega (arith, c.len-number-end.ensures) in
    subst (AreGood c.args.flat.now c.args.certificate.now) all c.loop-number.invariant
