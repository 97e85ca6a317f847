use Rattle.std.proofs.Common.{◌≡◌, ◌<◌, length, get_or, refl, sym, subst, Some, slice_get}
use Rattle.std.proofs.lemmas.Option.{slice_get_read}
use Rattle.np_flat.specs.Readers.{rows}
use Rattle.np_check.proofs.Filing.{filed_more}
use Rattle.np_check.proofs.watched.filed.Goals as goal

pub loop-number-preserved : goal.loop-number-preserved
loop-number-preserved c =
    let task = c.args.parts.now in
    let n = c.loop-number.number in
    let step = c.step-item.result in
    let below : n < length task.steps = subst (λ xs. n < length xs) c.as_slice-step-items.ensures c.loop-number-test.true in
    let read : step ≡ get_or task.steps n step = subst (λ xs. step ≡ get_or xs n step) c.as_slice-step-items.ensures c.step-item.is in
    let there : slice_get task.steps n ≡ Some step = slice_get_read task.steps (length task.steps) n step refl below read in
    filed_more task n (rows c.loop-number.table.items) (rows c.note.new.table.items) c.place_of.result c.in_ok-note.ensures step there
    (subst (λ k. c.place_of.result < k) (sym c.loop-number.invariant.count) c.place_of.ensures.within) c.place_of.ensures.own c.loop-number.invariant
