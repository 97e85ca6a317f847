use Rattle.std.proofs.Common.{◌≡◌, ◌<◌, length, get_or, subst}
use Rattle.np_flat.specs.Readers.{rows, reads_fact}
use Rattle.np_flat.proofs.Index.{readers_more}
use Rattle.np_flat.proofs.readers.fact_readers.Goals as goal

pub loop-number-preserved : goal.loop-number-preserved
loop-number-preserved c =
    let subgoals = c.args.parts.now.subgoals in
    let n = c.loop-number.number in
    let s = c.subgoal-item.result in
    readers_more reads_fact (length c.args.parts.now.facts) subgoals n s (rows c.loop-number.table.items) (rows c.note_fact.new.table.items)
    (subst (λ xs. n < length xs) c.as_slice-subgoal-items.ensures c.loop-number-test.true)
    (subst (λ xs. s ≡ get_or xs n s) c.as_slice-subgoal-items.ensures c.subgoal-item.is)
    c.loop-number.invariant c.in_ok-note_fact.ensures
