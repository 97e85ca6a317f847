use Rattle.std.proofs.Common.{◌≡◌, ◌<◌, All, Some, sym, ◌∙◌, ap, subst, length}
use Rattle.std.specs.Result.{OnOk}
use Rattle.np_relax.specs.Needing.{needs_of}
use Rattle.np_relax.specs.Work.{achieved}
use Rattle.np_relax.proofs.Achieved.{achieved_one, achieved_within}
use Rattle.np_table.specs.Tables.{reach, at}
use Rattle.np_table.specs.Lowering.{settled_by, lowered}
use Rattle.np_table.proofs.lower.settle.Goals as goal

pub lower-requires-clause-subgoals : goal.lower-requires-clause-subgoals
lower-requires-clause-subgoals c =
    let task = c.args.flat.now in
    let n = c.args.step in
    let is : c.as_slice-in-Some.result.now ≡ achieved task n = c.as_slice-in-Some.ensures.value ∙ achieved_one task n c.achieved_in.new.achieved.items c.in_ok-achieved_in-in-Some.ensures.ascending c.in_ok-achieved_in-in-Some.ensures.exact in
    subst (All (λ q. q < length task.subgoals)) (sym is) (achieved_within task n)

pub returns-in_ok-achieved_in-in-Some-clause-settled : goal.returns-in_ok-achieved_in-in-Some-clause-settled
returns-in_ok-achieved_in-in-Some-clause-settled c =
    let task = c.args.flat.now in
    let n = c.args.step in
    let entries = c.args.entries.now.items in
    let marks = c.args.waiting.now.marks.items in
    let is : c.as_slice-in-Some.result.now ≡ achieved task n = c.as_slice-in-Some.ensures.value ∙ achieved_one task n c.achieved_in.new.achieved.items c.in_ok-achieved_in-in-Some.ensures.ascending c.in_ok-achieved_in-in-Some.ensures.exact in
    let far : reach (at entries) (needs_of task n) ≡ Some c.in-Some.reach =
    sym (c.reached.ensures ∙ ap (λ xs. reach (at xs) c.needs.result.now) c.as_slice.ensures.value ∙ ap (reach (at entries)) c.needs.ensures.needs) ∙ c.in-Some.is in
    subst (λ z. OnOk c.lower.result ((c.lower.new.entries.items, c.lower.new.waiting.marks.items) ≡ z))
    (ap (λ xs. lowered task c.args.units.now n c.in-Some.reach xs entries marks) is ∙ sym (ap (λ o. settled_by task c.args.units.now n o entries marks) far)) c.lower.ensures.lowered
