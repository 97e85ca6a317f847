use Rattle.std.proofs.Common.{List, ℕ, sym, subst, ◌∙◌, ap}
use Rattle.std.proofs.lemmas.List.{take_all}
use Rattle.np_model.specs.declared.task.Step.{Step}
use Rattle.np_plan.specs.Layout.{steps_text}
use Rattle.np_plan.specs.Plans.{Spells}
use Rattle.np_plan.proofs.Printing.{steps_text_spells}
use Rattle.np_plan.proofs.print.print_plan.Goals as goal

pub returns-clause-read_back : goal.returns-clause-read_back
returns-clause-read_back c =
    let task = c.args.task.now in
    let steps = c.args.steps.now in
    let text = c.loop-step.invariant ∙ ap (λ (ss : List Step). steps_text task ss) (take_all c.loop-step.step-index steps c.loop-step-test.false) in
    subst (λ (bytes : List ℕ). Spells task bytes steps) (sym text) (steps_text_spells task c.parts-parts.ensures.kept steps c.requires)
