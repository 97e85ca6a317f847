use Rattle.std.proofs.Common.{◌+◌, drop, refl, sym, ap, ◌∙◌}
use Rattle.std.proofs.lemmas.Result.{err_from_is_err_and}
use Rattle.np_model.specs.declared.task.TaskParts.{TaskParts}
use Rattle.np_plan.specs.Faults.{IsStepFault}
use Rattle.np_plan.specs.Numbers.{step_of}
use Rattle.np_plan.proofs.Naming.{step_named, step_unnamed}
use Rattle.np_plan.proofs.Rising.{one_passed, first_among, stamp_fault, next_line}
use Rattle.np_plan.proofs.read.steps.steps_of.Goals as goal

pub returns-in_err-before-clause-fault : goal.returns-in_err-before-clause-fault
returns-in_err-before-clause-fault c =
    let p = err_from_is_err_and c.from_residual-in_err-before.result c.from_residual-in_err-before.ensures.1 in
    let lines = c.args.lines.now in
    let i = c.loop-line.line-index in
    rw (p.1, p.2)
    (stamp_fault c.args.task.now lines c.loop-line.before c.loop-line.steps.items (drop i lines) c.line-item.result (drop (i + 1) lines) c.loop-line.invariant (next_line lines i c.line-item.result c.loop-line-test.true c.line-item.is)
    c.in_err-before.field-0.0 c.in_err-before.ensures.fault)

pub returns-in_default-clause-fault : goal.returns-in_default-clause-fault
returns-in_default-clause-fault c =
    let task = c.args.task.now in
    let lines = c.args.lines.now in
    let l = c.line-item.result in
    let i = c.loop-line.line-index in
    let unknown = sym (c.in_ok-step.ensures ∙ ap (λ (t : TaskParts). step_of t l) c.in_ok-directory.ensures) ∙ c.in_default.is in
    first_among task lines c.loop-line.before c.loop-line.steps.items (IsStepFault task l.place) (drop i lines) l (drop (i + 1) lines) c.loop-line.invariant (next_line lines i l c.loop-line-test.true c.line-item.is)
    (record { above = c.in_ok-before.ensures.above; unknown = step_unnamed task c.requires.task l unknown; place_is = refl })

pub loop-line-preserved : goal.loop-line-preserved
loop-line-preserved c =
    let task = c.args.task.now in
    let lines = c.args.lines.now in
    let l = c.line-item.result in
    let i = c.loop-line.line-index in
    let found = sym (c.in_ok-step.ensures ∙ ap (λ (t : TaskParts). step_of t l) c.in_ok-directory.ensures) ∙ c.in-Some.is in
    rw c.in_ok-push.ensures.items
    (one_passed task lines c.loop-line.before c.loop-line.steps.items (drop i lines) l (drop (i + 1) lines) c.in_ok-before.before c.in-Some.step c.loop-line.invariant (next_line lines i l c.loop-line-test.true c.line-item.is)
    c.in_ok-before.ensures.value c.in_ok-before.ensures.above (step_named task l c.in-Some.step found))
