use Rattle.std.proofs.Common.{ap, ◌<◌, ◌^◌, ◌+ℤ◌, pos, List, ℤ, length, get_or, set, sym, subst, ◌∙◌, arith}
use mir.Syntax.{w128}
use mir.Val.{SFits, to_z, of_z}
use Rattle.np_flat.proofs.Changes.{number_within, sum_fits, next_change}
use Rattle.np_flat.proofs.step.make_changes.Goals as goal

pub bounds-as_slice-number : goal.bounds-as_slice-number
bounds-as_slice-number c =
    let few : length c.args.changes.now < 2 ^ 64 = omega arith in
    let within = number_within c.args.values.now c.args.changes.now c.loop-number.number-index c.loop-number.values (0, pos 0) c.requires.within c.requires.changes few c.loop-number-test.true c.loop-number.invariant in
    subst (λ (vs : List ℤ). (get_or c.args.changes.now c.loop-number.number-index (0, pos 0)).0 < length vs) (sym c.as_slice.ensures) within

pub overflow_add-value : goal.overflow_add-value
overflow_add-value c =
    let few : length c.args.changes.now < 2 ^ 64 = omega arith in
    let change = get_or c.args.changes.now c.loop-number.number-index (0, pos 0) in
    subst (λ (vs : List ℤ). SFits w128 (to_z w128 (of_z w128 (get_or vs change.0 (pos 0))) +ℤ to_z w128 (of_z w128 change.1))) (sym c.as_slice.ensures)
    (sum_fits c.args.values.now c.args.changes.now c.loop-number.number-index c.loop-number.values (0, pos 0) c.requires.within c.requires.changes few c.loop-number-test.true c.loop-number.invariant)

pub set-requires : goal.set-requires
set-requires c =
    let few : length c.args.changes.now < 2 ^ 64 = omega arith in
    number_within c.args.values.now c.args.changes.now c.loop-number.number-index c.loop-number.values (0, pos 0) c.requires.within c.requires.changes few c.loop-number-test.true c.loop-number.invariant

pub loop-number-preserved : goal.loop-number-preserved
loop-number-preserved c =
    let few : length c.args.changes.now < 2 ^ 64 = omega arith in
    let change = get_or c.args.changes.now c.loop-number.number-index (0, pos 0) in
    c.set.ensures
    ∙ ap (λ (vs : List ℤ). set c.loop-number.values change.0 (to_z w128 (of_z w128 (to_z w128 (of_z w128 (get_or vs change.0 (pos 0))) +ℤ to_z w128 (of_z w128 change.1))))) c.as_slice.ensures
    ∙ next_change c.args.values.now c.args.changes.now c.loop-number.number-index c.loop-number.values (0, pos 0) c.requires.within c.requires.changes few c.loop-number-test.true c.loop-number.invariant
