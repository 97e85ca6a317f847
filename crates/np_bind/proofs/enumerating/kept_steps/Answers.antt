use Rattle.std.proofs.Common.{◌∙◌, sym, ap, [], add-one}
use Rattle.std.proofs.lemmas.Result.{err_from_is_err_and}
use Rattle.np_model.specs.declared.task.TaskParts.{TaskParts}
use Rattle.np_bind.specs.Bindings.{steps_of_action, steps_from}
use Rattle.np_bind.specs.Binding.{kept_from}
use Rattle.np_bind.proofs.Trying.{actions_on, actions_fault, refuse_by}
use Rattle.np_bind.proofs.enumerating.kept_steps.Goals as goal

pub returns-in_err-kept : goal.returns-in_err-kept
returns-in_err-kept c =
    let p = err_from_is_err_and c.from_residual.result c.from_residual.ensures.1 in
    let actions = c.as_slice-action-items.ensures ∙ ap (λ (t : TaskParts). t.actions) c.task.ensures in
    rw (p.1, p.2) (refuse_by c.in_err-kept.field-0.0
    (kept_from c.args.known.now.task c.args.known.now.values c.args.metric.now c.loop-number.kept (steps_of_action c.args.known.now.task c.loop-number.number c.action-item.result))
    (kept_from c.args.known.now.task c.args.known.now.values c.args.metric.now [] (steps_from c.args.known.now.task 0 c.args.known.now.task.actions))
    (λ n is. ap (λ xs. kept_from c.args.known.now.task c.args.known.now.values c.args.metric.now [] (steps_from c.args.known.now.task 0 xs)) (sym actions)
    ∙ c.loop-number.invariant
    ∙ actions_fault c.args.known.now.task c.args.known.now.values c.args.metric.now c.as_slice-action-items.result.now c.loop-number.number c.action-item.result c.loop-number.kept n
    c.loop-number-test.true c.action-item.is is)
    c.in_err-kept.ensures)

pub loop-number-preserved : goal.loop-number-preserved
loop-number-preserved c =
    rw add-one (c.loop-number.invariant
    ∙ actions_on c.args.known.now.task c.args.known.now.values c.args.metric.now c.as_slice-action-items.result.now c.loop-number.number c.action-item.result c.loop-number.kept c.in_ok-kept.kept
    c.loop-number-test.true c.action-item.is c.in_ok-kept.ensures)
