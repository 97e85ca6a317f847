use Rattle.std.proofs.Common.{◌≡◌, ◌<◌, ◌≤◌, ℕ, List, length, All, get_or, refl, sym, ap, subst, ◌∙◌, arith}
use Rattle.std.proofs.lemmas.List.{take_all}
use Rattle.std.proofs.lemmas.List.Elements.{All-more}
use Rattle.np_flat.specs.declared.parts.Parts.{Parts}
use Rattle.np_flat.specs.Readers.{rows, row}
use Rattle.np_flat.specs.States.{is_goal}
use Rattle.np_check.specs.Steps.{IsBounded}
use Rattle.np_check.proofs.Checks.{expanded_by}
use Rattle.np_check.proofs.Filing.{watched_bounded}
use Rattle.np_check.proofs.check.is_expanded.Goals as goal

pub loop-fact-preserved : goal.loop-fact-preserved
loop-fact-preserved c =
    let task = c.args.flat.now in
    let entry = c.args.entry.now in
    let table = rows c.rows-table.result.now in
    let i = c.loop-fact.fact-index in
    let facts = entry.state.facts in
    let below : i < length facts = subst (λ xs. i < length xs) c.as_slice-fact-items.ensures c.loop-fact-test.true in
    let good : All (IsBounded task c.args.first.now entry) c.row_at-needing.result.now =
    subst (λ (t : Parts). All (IsBounded t c.args.first.now entry) c.row_at-needing.result.now) c.task-task.ensures (c.in_ok-are_bounded-2.ensures.0 c.if-not-branch-2.false) in
    let here : c.row_at-needing.result.now ≡ row table (get_or facts i 0) = c.row_at-needing.ensures ∙ ap (λ (xs : List ℕ). row table (get_or xs i 0)) c.as_slice-fact-items.ensures in
    All-more (λ p. All (IsBounded task c.args.first.now entry) (row table p)) facts i 0 below c.loop-fact.invariant (subst (All (IsBounded task c.args.first.now entry)) here good)

pub returns : goal.returns
returns c = (
  λ yes.
      let task = c.args.flat.now in
      let entry = c.args.entry.now in
      let first = c.args.first.now in
      let table = rows c.rows-table.result.now in
      let facts = entry.state.facts in
      let none : All (IsBounded task first entry) c.row_at-needing_none.result.now =
      subst (λ (t : Parts). All (IsBounded t first entry) c.row_at-needing_none.result.now) c.task-task.ensures (c.in_ok-are_bounded.ensures.0 c.if-not-branch.false) in
      let last : c.row_at-needing_none.result.now ≡ row table (length task.facts) =
      c.row_at-needing_none.ensures ∙ ap (row table) (c.len.ensures ∙ ap (λ (t : Parts). length t.facts) (c.parts.ensures.parts ∙ c.task-task.ensures)) in
      let past : length facts ≤ c.loop-fact.fact-index = subst (λ (xs : List ℕ). length xs ≤ c.loop-fact.fact-index) c.as_slice-fact-items.ensures (omega (arith, c.loop-fact-test.false)) in
      expanded_by task first entry (ap (λ (t : Parts). is_goal t entry.state) (sym c.task-task.ensures) ∙ sym c.is_goal.ensures ∙ c.if-is_goal.false)
      (watched_bounded task first entry table c.rows-table.ensures
      (subst (All (IsBounded task first entry)) last none)
      (subst (All (λ p. All (IsBounded task first entry) (row table p))) (take_all c.loop-fact.fact-index facts past) c.loop-fact.invariant)),
  λ is. refl,
)
