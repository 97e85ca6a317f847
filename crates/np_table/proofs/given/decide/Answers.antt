use Rattle.std.proofs.Common.{◌≡◌, ◌<◌, ℕ, ◌∙◌, ap, sym, subst, length, arith, true, List, Option}
use Rattle.np_flat.specs.declared.parts.Parts.{Parts}
use Rattle.np_flat.specs.States.{holds}
use Rattle.np_table.specs.Tables.{at}
use Rattle.np_table.specs.Lowering.{unit_at, AreUnits}
use Rattle.np_table.specs.Given.{IsNoted, is_number, is_good}
use Rattle.np_table.proofs.Pays.{all_paid}
use Rattle.np_table.proofs.Allows.{noted_more, shares_more}
use Rattle.np_table.proofs.Judges.{table_of, good_there}
use Rattle.np_table.proofs.given.decide.Goals as goal

pub loop-step-preserved : goal.loop-step-preserved
loop-step-preserved c =
    let task = c.args.flat.now in
    let all : c.len-count.result ≡ length task.steps = c.len-count.ensures ∙ ap (λ (p : Parts). length p.steps) c.parts-3.ensures.parts in
    let there : c.loop-step.step < length task.steps = omega arith in
    record {
      noted = noted_more task (at c.args.entries.now) c.loop-step.reaches.items c.note_step.new.reaches.items c.loop-step.step c.loop-step.invariant.noted there c.in_ok-note_step.ensures.reaches;
      paid = shares_more task c.args.state.now (at c.args.entries.now) c.loop-step.units.items c.note_step.new.units.items c.loop-step.step c.loop-step.invariant.paid there c.in_ok-note_step.ensures.units;
    }

pub returns : goal.returns
returns c =
    let task = c.args.flat.now in
    let entries = c.args.entries.now in
    let reaches = c.loop-step.reaches.items in
    let units = c.loop-step.units.items in
    let all : c.len-count.result ≡ length task.steps = c.len-count.ensures ∙ ap (λ (p : Parts). length p.steps) c.parts-3.ensures.parts in
    let done : c.loop-step.step ≡ length task.steps = omega arith in
    let noted : IsNoted task (at entries) reaches (length task.steps) = subst (IsNoted task (at entries) reaches) done c.loop-step.invariant.noted in
    let paid : AreUnits task c.args.state.now (λ q. is_number (at entries q)) units = all_paid task c.args.state.now (λ q. is_number (at entries q)) units c.loop-step.step done c.loop-step.invariant.paid in
    let to = λ (xs : List (Option ℕ)) (us : List ℕ). (q : ℕ) → q < length task.subgoals → is_good task (holds task c.args.state.now q) (at entries q) (at xs q) (unit_at us q) q ≡ true in (
      λ yes. table_of task c.args.state.now entries reaches units noted paid c.requires.count (subst (λ xs. to xs units) c.as_slice.ensures.value (subst (λ us. to c.as_slice.result.now us) c.as_slice-2.ensures.value (c.are_good.ensures.yes yes))),
      λ is. c.are_good.ensures.no (subst (λ us. to c.as_slice.result.now us) (sym c.as_slice-2.ensures.value) (subst (λ xs. to xs units) (sym c.as_slice.ensures.value) (good_there task c.args.state.now entries reaches units noted paid is))),
    )
