use Rattle.std.proofs.Common.{◌≡◌, ◌+◌, ◌-◌, ◌<◌, length, get_or, refl, subst, arith}
use Rattle.std.proofs.lemmas.Option.{slice_get-get_or}
use Rattle.np_check.specs.First.{ArePlaced}
use Rattle.np_check.proofs.LookUps.{first_more, once_more}
use Rattle.np_check.proofs.first.FirstEntries.new.Goals as goal

pub loop-number-preserved : goal.loop-number-preserved
loop-number-preserved c =
    let n = c.loop-number.number in
    let entries = c.args.entries.now in
    let d = c.index-entries-number.result in
    let within : n - 1 < length entries = omega arith in
    let one : (n - 1) + 1 ≡ n = omega arith in
    let there = slice_get-get_or entries (n - 1) d within in
    record {
      first = first_more c.loop-number.numbers c.insert.new.self entries (n - 1) n (get_or entries (n - 1) d) one there c.in_ok-later.ensures.updates.0 c.loop-number.invariant.first;
      once = once_more c.loop-number.numbers entries (n - 1) n (get_or entries (n - 1) d) (record { ref_ptr = c.args.entries.ref_ptr; now = (get_or entries (n - 1) d).state }) c.in_ok-later.later c.loop-number.distinct c.is_none-distinct.result one there c.in_ok-later.ensures.old refl c.is_none-distinct.ensures
          c.loop-number.invariant.first c.loop-number.invariant.once;
    }

pub invariant_of-result : goal.invariant_of-result
invariant_of-result c =
    let all : ◌≡◌ c.loop-number.number 0 = omega arith in
    subst (ArePlaced c.loop-number.numbers c.loop-number.distinct c.args.entries.now) all c.loop-number.invariant
