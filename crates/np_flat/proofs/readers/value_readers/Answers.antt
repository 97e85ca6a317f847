use Rattle.std.proofs.Common.{◌≡◌, ◌<◌, length, get_or, sym, subst}
use Rattle.np_flat.specs.Readers.{ReadsValuesBelow, rows, reads_value}
use Rattle.np_flat.specs.Flats.{IsSubgoal}
use Rattle.np_flat.proofs.Index.{readers_more, values_below}
use Rattle.np_flat.proofs.readers.value_readers.Goals as goal

pub loop-number-preserved : goal.loop-number-preserved
loop-number-preserved c =
    let subgoals = c.args.parts.now.subgoals in
    let n = c.loop-number.number in
    let s = c.subgoal-item.result in
    readers_more reads_value (length c.args.parts.now.values) subgoals n s (rows c.loop-number.table.items) (rows c.note_value.new.table.items)
    (subst (λ xs. n < length xs) c.as_slice-subgoal-items.ensures c.loop-number-test.true)
    (subst (λ xs. s ≡ get_or xs n s) c.as_slice-subgoal-items.ensures c.subgoal-item.is)
    c.loop-number.invariant c.in_ok-note_value.ensures

pub note_value-requires : goal.note_value-requires
note_value-requires c =
    let task = c.args.parts.now in
    let n = c.loop-number.number in
    let s = c.subgoal-item.result in
    let at : s ≡ get_or task.subgoals n s = subst (λ xs. s ≡ get_or xs n s) c.as_slice-subgoal-items.ensures c.subgoal-item.is in
    let within : n < length task.subgoals = subst (λ xs. n < length xs) c.as_slice-subgoal-items.ensures c.loop-number-test.true in
    let of : IsSubgoal (length task.facts) (length task.values) s = subst (IsSubgoal (length task.facts) (length task.values)) (sym at) (c.requires.subgoals n s within) in
    subst (λ k. ReadsValuesBelow k s) (sym c.loop-number.invariant.many) (values_below (length task.facts) (length task.values) s of)
