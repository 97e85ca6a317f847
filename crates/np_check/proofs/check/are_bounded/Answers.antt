use Rattle.std.proofs.Common.{All, refl, subst, arith}
use Rattle.std.proofs.lemmas.List.{take_all}
use Rattle.std.proofs.lemmas.List.Elements.{All-more}
use Rattle.np_check.specs.Steps.{IsBounded}
use Rattle.np_check.proofs.check.are_bounded.Goals as goal

pub loop-step-preserved : goal.loop-step-preserved
loop-step-preserved c =
    All-more (IsBounded c.args.flat.now c.args.first.now c.args.entry.now) c.args.steps.now c.loop-step.step-index 0 (omega (arith, c.loop-step-test.true)) c.loop-step.invariant
    (c.in_ok-is_bounded.ensures.0 c.if-not-branch.false)

pub returns : goal.returns
returns c = (
  λ yes.
      subst (All (IsBounded c.args.flat.now c.args.first.now c.args.entry.now)) (take_all c.loop-step.step-index c.args.steps.now (omega (arith, c.loop-step-test.false))) c.loop-step.invariant,
  λ all. refl,
)
