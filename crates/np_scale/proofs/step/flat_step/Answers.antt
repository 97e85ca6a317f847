use Rattle.std.proofs.Common.{◌∙◌, sym, ap, subst, not, []}
use Rattle.std.specs.Prelude.{filter, unsigned_abs}
use Rattle.std.proofs.lemmas.Result.{err_from_is_err_and}
use Rattle.np_bind.specs.declared.bound.Spot.TheVariants.{Step}
use Rattle.np_model.specs.States.{is_among}
use Rattle.np_scale.specs.Answers.{Refuses}
use Rattle.np_scale.specs.FlatOf.{all_subgoals, changes_from}
use Rattle.np_scale.specs.Limits.{with_conditions, each_checked, checked_change, checked_cost}
use Rattle.np_scale.specs.Code.{ArePut, facts_in}
use Rattle.np_scale.proofs.Amounts.{amounts_are}
use Rattle.np_scale.proofs.Steps.{step_changes_fault, step_cost_fault, passed, step_known, step_made, needs_read}
use Rattle.np_scale.proofs.step.flat_step.Goals as goal

pub returns-in_err-changes-clause-known : goal.returns-in_err-changes-clause-known
returns-in_err-changes-clause-known c =
    let p = err_from_is_err_and c.from_residual-in_err-changes.result c.from_residual-in_err-changes.ensures.1 in
    let terms = c.args.tables.now.values in
    let unit = c.args.tables.now.unit in
    let b = c.args.step.now in
    rw (p.1, p.2)
    (step_changes_fault c.in_err-changes.field-0.0 (with_conditions (Step b.step) c.args.tables.now.facts terms unit c.args.subgoals.now b.needs) (each_checked (checked_change unit b) terms) (checked_cost b)
    c.subgoal_numbers.new.subgoals (changes_from unit 0 b.changes terms)
    (needs_read c.args.tables.now.facts terms unit c.args.subgoals.now b c.subgoal_numbers.new.subgoals _ _ c.in_ok-copy.ensures c.as_slice.ensures c.in_ok-needs.ensures.known)
    (subst (Refuses c.in_err-changes.field-0.0) (amounts_are terms unit b c.requires.step.values c.requires.step.distinct) c.in_err-changes.ensures))

pub returns-in_err-cost-clause-known : goal.returns-in_err-cost-clause-known
returns-in_err-cost-clause-known c =
    let p = err_from_is_err_and c.from_residual-in_err-cost.result c.from_residual-in_err-cost.ensures.1 in
    let terms = c.args.tables.now.values in
    let unit = c.args.tables.now.unit in
    let b = c.args.step.now in
    rw (p.1, p.2)
    (step_cost_fault c.in_err-cost.field-0.0 (with_conditions (Step b.step) c.args.tables.now.facts terms unit c.args.subgoals.now b.needs) (each_checked (checked_change unit b) terms) (checked_cost b)
    c.subgoal_numbers.new.subgoals (changes_from unit 0 b.changes terms) c.in_ok-changes.changes (unsigned_abs b.cost.num)
    (needs_read c.args.tables.now.facts terms unit c.args.subgoals.now b c.subgoal_numbers.new.subgoals _ _ c.in_ok-copy.ensures c.as_slice.ensures c.in_ok-needs.ensures.known)
    (sym (amounts_are terms unit b c.requires.step.values c.requires.step.distinct) ∙ c.in_ok-changes.ensures) c.in_err-cost.ensures)

pub returns-clause-known : goal.returns-clause-known
returns-clause-known c =
    let terms = c.args.tables.now.values in
    let unit = c.args.tables.now.unit in
    let b = c.args.step.now in
    step_known (with_conditions (Step b.step) c.args.tables.now.facts terms unit c.args.subgoals.now b.needs) (each_checked (checked_change unit b) terms) (checked_cost b) c.subgoal_numbers.new.subgoals
    (changes_from unit 0 b.changes terms) c.in_ok-changes.changes (unsigned_abs b.cost.num) c.in_ok-cost.cost
    (needs_read c.args.tables.now.facts terms unit c.args.subgoals.now b c.subgoal_numbers.new.subgoals _ _ c.in_ok-copy.ensures c.as_slice.ensures c.in_ok-needs.ensures.known)
    (sym (amounts_are terms unit b c.requires.step.values c.requires.step.distinct) ∙ c.in_ok-changes.ensures) c.in_ok-cost.ensures

pub returns-clause-step : goal.returns-clause-step
returns-clause-step c =
    let terms = c.args.tables.now.values in
    let unit = c.args.tables.now.unit in
    let b = c.args.step.now in
    let facts = c.args.tables.now.facts in
    step_made facts terms unit c.subgoal_numbers.new.subgoals b _ c.in_ok-copy-2.ensures
    (subst (λ cs. ArePut c.subgoal_numbers.new.subgoals (all_subgoals facts terms unit cs) [] c.in_ok-needs.needs) c.as_slice.ensures c.in_ok-needs.ensures.numbers)
    (c.in_ok-adds.ensures ∙ ap (facts_in facts) c.as_slice-2.ensures)
    (c.in_ok-deletes.ensures
    ∙ ap (λ adds. facts_in facts (filter (λ a. not (is_among adds a)) c.as_slice-4.result.now)) c.as_slice-3.ensures
    ∙ ap (λ deletes. facts_in facts (filter (λ a. not (is_among b.adds a)) deletes)) c.as_slice-4.ensures)
    (passed (each_checked (checked_change unit b) terms) (changes_from unit 0 b.changes terms) c.in_ok-changes.changes
    (sym (amounts_are terms unit b c.requires.step.values c.requires.step.distinct) ∙ c.in_ok-changes.ensures)).1
    (passed (checked_cost b) (unsigned_abs b.cost.num) c.in_ok-cost.cost c.in_ok-cost.ensures).1
