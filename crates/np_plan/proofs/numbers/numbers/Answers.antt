use Rattle.std.proofs.Common.{◌≡◌, ◌+◌, ◌-◌, ◌<◌, ◌∙◌, map, ap, sym, length, arith}
use Rattle.std.proofs.lemmas.List.{length-map}
use Rattle.std.proofs.Math.ListN.{get_or-map}
use Rattle.np_plan.proofs.LookUps.{numbers_more}
use Rattle.np_plan.proofs.numbers.numbers.Goals as goal

pub loop-number-preserved : goal.loop-number-preserved
loop-number-preserved g c =
    let name_of = g.N.Named.name_of in
    let n = c.loop-number.number in
    let items = c.args.items.now in
    let item = c.index-items-number.result in
    let one : (n - 1) + 1 ≡ n = omega arith in
    let within : n - 1 < length (map name_of items) = omega (arith, length-map items name_of) in
    numbers_more c.loop-number.numbers c.insert.new.self (map name_of items) (n - 1) n c.name.result (name_of item) one within
    (c.name.ensures ∙ ap name_of c.index-items-number.is ∙ sym (get_or-map name_of items (n - 1) item)) c.in_ok-insert.ensures.updates.0 c.loop-number.invariant
