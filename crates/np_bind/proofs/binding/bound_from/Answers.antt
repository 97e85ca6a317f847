use Rattle.std.proofs.Common.{sym, subst, List}
use Rattle.std.proofs.lemmas.Result.{err_from_is_err_and}
use Rattle.np_frac.specs.Fractions.{Fraction}
use Rattle.np_model.specs.declared.task.Term.{Term}
use Rattle.np_bind.specs.Answers.{Refuses}
use Rattle.np_bind.specs.Trying.{steps_and_goal}
use Rattle.np_bind.proofs.Trying.{bound_by_parts, refuse_then}
use Rattle.np_bind.proofs.binding.bound_from.Goals as goal

pub returns-in_err-steps : goal.returns-in_err-steps
returns-in_err-steps c =
    let p = err_from_is_err_and c.from_residual.result c.from_residual.ensures.1 in
    let part = subst (λ (values : List (Term × Fraction)). Refuses c.in_err-steps.field-0.0 (steps_and_goal c.args.task.now values)) c.as_slice.ensures c.in_err-steps.ensures in
    rw (p.1, p.2) (subst (Refuses c.in_err-steps.field-0.0) (sym (bound_by_parts c.args.task.now c.args.values))
    (refuse_then c.in_err-steps.field-0.0 (steps_and_goal c.args.task.now c.args.values) _ part))
