use Rattle.std.proofs.Common.{◌≡◌, ◌∙◌, ap, sym, subst, rules, [], pos, refl, to_z}
use Rattle.std.specs.Int.{w128}
use Rattle.np_bind.specs.declared.bound.Spot.TheVariants.{Goal}
use Rattle.np_flat.specs.declared.parts.Parts.{Parts}
use Rattle.np_scale.specs.FlatOf.{all_subgoals}
use Rattle.np_scale.specs.Limits.{checked_steps, with_conditions}
use Rattle.np_scale.specs.Code.{ArePut, AreStepsOf}
use Rattle.np_scale.proofs.Scalings.{parts_made}
use Rattle.np_scale.proofs.scaling.parts_from.Goals as goal

pub returns : goal.returns
returns c =
    let parts : Parts = record {
      unit = to_z w128 c.args.tables.now.unit;
      facts = c.in_ok-copy.field-0;
      values = c.in_ok-copy-2.field-0;
      start = c.args.start;
      subgoals = c.in_ok-copy-3.field-0;
      steps = c.in_ok-steps.steps;
      goal = c.in_ok-goal.goal;
    } in
    let unit : to_z w128 c.args.tables.now.unit ≡ pos c.args.tables.now.unit = search rules in
    parts_made c.args.tables.now.facts c.args.tables.now.values c.args.tables.now.unit c.flat_steps.new.subgoals c.subgoal_numbers.new.subgoals c.args.start c.args.bound.now parts
    (sym (ap (λ k. checked_steps c.args.tables.now.facts c.args.tables.now.values c.args.tables.now.unit k c.as_slice.result.now) c.new-subgoals.ensures ∙ ap (checked_steps c.args.tables.now.facts c.args.tables.now.values c.args.tables.now.unit []) c.as_slice.ensures)
    ∙ c.in_ok-steps.ensures.known)
    (subst (λ l. AreStepsOf c.args.tables.now.facts c.args.tables.now.values c.args.tables.now.unit c.flat_steps.new.subgoals l c.in_ok-steps.steps) c.as_slice.ensures c.in_ok-steps.ensures.steps)
    (sym (ap (with_conditions Goal c.args.tables.now.facts c.args.tables.now.values c.args.tables.now.unit c.flat_steps.new.subgoals) c.as_slice-2.ensures) ∙ c.in_ok-goal.ensures.known)
    (subst (λ cs. ArePut c.subgoal_numbers.new.subgoals (all_subgoals c.args.tables.now.facts c.args.tables.now.values c.args.tables.now.unit cs) [] c.in_ok-goal.goal) c.as_slice-2.ensures
    c.in_ok-goal.ensures.numbers)
    unit c.in_ok-copy.ensures c.in_ok-copy-2.ensures refl c.in_ok-copy-3.ensures
