use Rattle.std.proofs.Common.{refl, sym, subst}
use Rattle.np_flat.specs.declared.parts.Parts.{Parts}
use Rattle.np_commands.specs.Steps.{ArePlanned, IsPrinted}
use Rattle.np_commands.proofs.Works.{are_planned, work_is}
use Rattle.np_commands.proofs.solve.solve_task.Goals as goal

pub plan_text-requires : goal.plan_text-requires
plan_text-requires c =
    subst (λ (flat : Parts). ArePlanned c.args.task.now flat c.in_ok-outcome.outcome.end) (sym c.parts.ensures.parts)
    (are_planned c.args.task.now c.args.flat.now c.parts-parts.ensures.kept c.requires.flat c.args.nodes c.requires.few c.in_ok-outcome.outcome c.in_ok-outcome.ensures)

pub returns : goal.returns
returns c =
    work_is c.args.task.now c.args.flat.now c.parts-parts.ensures.kept c.requires.flat c.args.nodes c.requires.few c.in_ok-outcome.outcome c.in_ok-outcome.ensures
    _ refl
    (subst (λ (flat : Parts). IsPrinted c.args.task.now flat c.in_ok-outcome.outcome.end c.in_ok-plan.plan.items) c.parts.ensures.parts c.in_ok-plan.ensures)
    c.answer_of.ensures
