use Rattle.std.proofs.Common.{List, map, subst}
use Rattle.np_model.specs.declared.task.Action.{Action}
use Rattle.np_model.specs.declared.task.Object.{Object}
use Rattle.np_plan.specs.Numbers.{HasNumbers}
use Rattle.np_plan.proofs.numbers.Directory.new.Goals as goal

pub invariant_of-result : goal.invariant_of-result
invariant_of-result c = record {
  actions_numbered = subst (λ (actions : List Action). HasNumbers c.in_ok-numbers.field-0 (map (λ (a : Action). a.name) actions)) c.as_slice.ensures c.in_ok-numbers.ensures;
  objects_numbered = subst (λ (objects : List Object). HasNumbers c.in_ok-numbers-2.field-0 (map (λ (o : Object). o.name) objects)) c.as_slice-2.ensures c.in_ok-numbers-2.ensures;
}
