use Rattle.std.proofs.Common.{length, arith, ◌<◌, ◌^◌, pos}
use Rattle.np_flat.proofs.Changes.{number_within, sum_fits, next_change}
use Rattle.np_blind.proofs.after.add_changes.Goals as goal

pub slice_copy_out-cells : goal.slice_copy_out-cells
slice_copy_out-cells c =
    let few : length c.args.changes.now < 2 ^ 64 = omega arith in
    number_within c.args.cells.now c.args.changes.now c.loop-number.number-index c.loop-number.cells (0, pos 0) c.requires.within c.requires.changes few c.loop-number-test.true c.loop-number.invariant

pub overflow_add-cells : goal.overflow_add-cells
overflow_add-cells c =
    let few : length c.args.changes.now < 2 ^ 64 = omega arith in
    sum_fits c.args.cells.now c.args.changes.now c.loop-number.number-index c.loop-number.cells (0, pos 0) c.requires.within c.requires.changes few c.loop-number-test.true c.loop-number.invariant

pub bounds-cells-number : goal.bounds-cells-number
bounds-cells-number c =
    let few : length c.args.changes.now < 2 ^ 64 = omega arith in
    number_within c.args.cells.now c.args.changes.now c.loop-number.number-index c.loop-number.cells (0, pos 0) c.requires.within c.requires.changes few c.loop-number-test.true c.loop-number.invariant

pub loop-number-preserved : goal.loop-number-preserved
loop-number-preserved c =
    let few : length c.args.changes.now < 2 ^ 64 = omega arith in
    next_change c.args.cells.now c.args.changes.now c.loop-number.number-index c.loop-number.cells (0, pos 0) c.requires.within c.requires.changes few c.loop-number-test.true c.loop-number.invariant
