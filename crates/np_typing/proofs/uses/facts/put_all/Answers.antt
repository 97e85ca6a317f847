use Rattle.np_typing.specs.Facts.{fact_faults}
use Rattle.np_typing.specs.LookUps.{HasFacts}
use Rattle.np_typing.proofs.UsesAnswers.{handed}
use Rattle.np_typing.proofs.UsesEach.{each_start, each_step, each_fault, each_all}
use Rattle.np_typing.proofs.uses.facts.put_all.Goals as goal

pub loop-fact-init : goal.loop-fact-init
loop-fact-init c = λ before h. each_start (fact_faults c.args.scope.now) (HasFacts c.args.scope.now) before c.args.facts.now _ h

pub loop-fact-preserved : goal.loop-fact-preserved
loop-fact-preserved c = λ before h.
    each_step (fact_faults c.args.scope.now) (HasFacts c.args.scope.now) before c.args.facts.now c.loop-fact.fact-index c.fact-item.result _ _
    c.loop-fact-test.true c.fact-item.is (c.loop-fact.invariant before h) c.in_ok-put.ensures

pub returns-in_err-put : goal.returns-in_err-put
returns-in_err-put c = λ before h.
    handed _ _ c.from_residual.result c.in_err-put.field-0.0 c.from_residual.ensures.1
    (each_fault (fact_faults c.args.scope.now) (HasFacts c.args.scope.now) before c.args.facts.now c.loop-fact.fact-index c.fact-item.result _ _
    c.loop-fact-test.true c.fact-item.is (c.loop-fact.invariant before h) c.in_err-put.ensures)

pub returns : goal.returns
returns c = λ before h.
    each_all (fact_faults c.args.scope.now) (HasFacts c.args.scope.now) before c.args.facts.now c.loop-fact.fact-index _
    c.loop-fact-test.false (c.loop-fact.invariant before h)
