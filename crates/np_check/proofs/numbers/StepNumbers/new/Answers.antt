use Rattle.std.proofs.Common.{◌≡◌, length, subst, arith}
use Rattle.np_check.specs.Walks.{AreNumbered}
use Rattle.np_check.proofs.StepNumbers.{numbered_more}
use Rattle.np_check.proofs.numbers.StepNumbers.new.Goals as goal

pub loop-number-preserved : goal.loop-number-preserved
loop-number-preserved c =
    numbered_more c.loop-number.numbers c.insert.new.self c.args.steps.now c.loop-number.number c.index-steps-number.result c.loop-number-test.true c.in_ok-insert.ensures.updates.0 c.loop-number.invariant

pub invariant_of-result : goal.invariant_of-result
invariant_of-result c =
    let all : ◌≡◌ c.loop-number.number (length c.args.steps.now) = omega arith in
    subst (AreNumbered c.loop-number.numbers c.args.steps.now) all c.loop-number.invariant
