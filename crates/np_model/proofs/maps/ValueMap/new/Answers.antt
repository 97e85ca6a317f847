use Rattle.std.proofs.Common.{◌≡◌, ◌+◌, ◌-◌, ◌<◌, length, arith}
use Rattle.np_model.proofs.LookUps.{values_more}
use Rattle.np_model.proofs.maps.ValueMap.new.Goals as goal

pub loop-number-preserved : goal.loop-number-preserved
loop-number-preserved c =
    let n = c.loop-number.number in
    let values = c.args.values.now in
    let d = c.index-values-number.result in
    let within : n - 1 < length values = omega arith in
    let one : (n - 1) + 1 ≡ n = omega arith in
    values_more c.loop-number.map c.insert.new.self values (n - 1) n _ d one within c.index-values-number.is c.in_ok-insert.ensures.updates.0 c.loop-number.invariant
