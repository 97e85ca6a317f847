use Rattle.std.proofs.Common.{◌∙◌, sym, ap, subst}
use Rattle.np_bind.specs.Answers.{Answers}
use Rattle.np_bind.specs.Trying.{choices, begun, kept_with}
use Rattle.np_bind.proofs.Trying.{bindings_are, begun_none}
use Rattle.np_bind.proofs.enumerating.try_action.Goals as goal

pub returns : goal.returns
returns c =
    subst (λ lists. Answers c.try_all.result (kept_with c.args.trial.now c.args.kept lists))
    (sym c.in_ok-rest.ensures.same
    ∙ ap (λ xs. begun xs (choices c.as_slice.result.now)) c.new-objects.ensures.items
    ∙ begun_none (choices c.as_slice.result.now)
    ∙ ap choices (c.as_slice.ensures ∙ c.in_ok-lists.ensures)
    ∙ sym (bindings_are c.args.trial.now.task c.args.trial.now.action.parameters))
    c.try_all.ensures.kept
