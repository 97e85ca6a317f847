use Rattle.std.proofs.Common.{◌≡◌, ◌≤◌, ◌<◌, false, List, length, subst, sym, arith}
use Rattle.std.specs.List.{All}
use Rattle.np_model.specs.declared.task.Step.{Step}
use Rattle.np_plan.specs.declared.plan.PlanLine.{PlanLine}
use Rattle.np_plan.specs.declared.read.TheConstants.{MOST_STEPS}
use Rattle.np_plan.specs.Faults.{is_memory}
use Rattle.np_plan.specs.Plans.{HasValue, Spells}
use Rattle.np_plan.proofs.Reading.{ok_more, err_more, same_names, same_fault, read_few, read_only, long_refused, lines_refused}
use Rattle.np_plan.proofs.Shortness.{values_of}
use Rattle.np_plan.proofs.read.read_plan.Goals as goal

pub returns-then-len-gt-MOST_STEPS-clause-refused : goal.returns-then-len-gt-MOST_STEPS-clause-refused
returns-then-len-gt-MOST_STEPS-clause-refused c e other spells few =
    let long : MOST_STEPS < length c.in_ok-text.text.lines = omega arith in
    long_refused c.args.task.now c.args.bytes.now c.in_ok-text.text c.in_ok-text.ensures.spelled c.in_ok-text.ensures.only long other spells few

pub steps_of-requires-clause-values : goal.steps_of-requires-clause-values
steps_of-requires-clause-values c =
    let spelled = c.in_ok-text.ensures.spelled in
    subst (λ (ls : List PlanLine). All HasValue ls) (sym c.as_slice.ensures) (values_of c.in_ok-text.text spelled.is_plan spelled.short)

pub returns-clause-few : goal.returns-clause-few
returns-clause-few c =
    let task = c.args.task.now in
    let p = c.in_ok-text.text in
    let text = c.in_ok-text.ensures in
    let few : length p.lines ≤ MOST_STEPS = omega (arith, c.len.ensures, c.if-len-gt-MOST_STEPS.false) in
    ok_more (λ steps. length steps.items ≤ MOST_STEPS)
    (λ steps named. read_few task c.args.bytes.now p text.spelled text.only steps.items few (same_names c.parts.result.now task c.as_slice.result.now p.lines steps.items c.parts.ensures.parts c.as_slice.ensures named)) c.steps_of.result c.steps_of.ensures.named

pub returns-clause-only : goal.returns-clause-only
returns-clause-only c =
    let task = c.args.task.now in
    let bytes = c.args.bytes.now in
    let p = c.in_ok-text.text in
    let text = c.in_ok-text.ensures in
    ok_more (λ steps. (other : List Step) → Spells task bytes other → other ≡ steps.items)
    (λ steps named other spells. read_only task bytes p text.spelled text.only c.parts.ensures.kept steps.items (same_names c.parts.result.now task c.as_slice.result.now p.lines steps.items c.parts.ensures.parts c.as_slice.ensures named) other spells)
    c.steps_of.result c.steps_of.ensures.named

pub returns-clause-refused : goal.returns-clause-refused
returns-clause-refused c =
    let task = c.args.task.now in
    let bytes = c.args.bytes.now in
    let p = c.in_ok-text.text in
    let text = c.in_ok-text.ensures in
    err_more (λ fault. is_memory fault ≡ false → (other : List Step) → Spells task bytes other → length other ≤ MOST_STEPS → ⊥)
    (λ fault faulty e other spells few. lines_refused task bytes p text.spelled text.only fault (same_fault c.parts.result.now task c.as_slice.result.now p.lines fault c.parts.ensures.parts c.as_slice.ensures faulty) e other spells)
    c.steps_of.result c.steps_of.ensures.fault
