use Rattle.std.proofs.Common.{◌∙◌, map, sym, ap}
use Rattle.np_model.specs.declared.task.Object.{Object}
use Rattle.np_plan.specs.Numbers.{numbers_of}
use Rattle.np_plan.proofs.Naming.{no_action, no_step, a_step}
use Rattle.np_plan.proofs.numbers.Directory.step_of.Goals as goal

pub returns-in_default : goal.returns-in_default
returns-in_default c = no_action c.args.self.now.task.now c.args.line.now c.in_default.ensures

pub returns-then-not-is_step : goal.returns-then-not-is_step
returns-then-not-is_step c =
    let names = map (λ (o : Object). o.name) c.args.self.now.task.now.objects in
    no_step c.args.self.now.task.now c.args.line.now c.in-Some.action c.in-Some.ensures c.in-Some-2.objects (sym c.in-Some-2.is ∙ c.in_ok-objects.ensures ∙ ap (numbers_of names) c.as_slice.ensures)
    (sym c.is_step.ensures ∙ c.if-not-is_step.true)

pub returns : goal.returns
returns c =
    let names = map (λ (o : Object). o.name) c.args.self.now.task.now.objects in
    a_step c.args.self.now.task.now c.args.line.now c.in-Some.action c.in-Some.ensures c.in-Some-2.objects (sym c.in-Some-2.is ∙ c.in_ok-objects.ensures ∙ ap (numbers_of names) c.as_slice.ensures)
    (sym c.is_step.ensures ∙ c.if-not-is_step.false)
