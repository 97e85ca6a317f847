use Rattle.std.proofs.Common.{rules, ◌≡◌, ◌≤◌, ◌^◌, ◌++◌, ℕ, pos, List, ◌∙◌, ap, sym, arith, length, length-append}
use Rattle.std.proofs.lemmas.Int.{ints}
use Rattle.np_frac.specs.Checked.{checked_quotient}
use Rattle.np_words.specs.Numbers.{written_after, part_digits, digits_of, signed}
use Rattle.np_words.specs.declared.read.wide.TheConstants.{MOST_DIGITS}
use Rattle.np_words.proofs.Numbers.{written_append, power_le, room_for_part, value_is}
use Rattle.np_words.proofs.word.Decimal.value.Goals as goal

pub written_after-requires : goal.written_after-requires
written_after-requires c = let most = power_le (length c.as_slice-whole.result.now) MOST_DIGITS (omega arith) in omega (arith, most)

pub written_after-number-requires : goal.written_after-number-requires
written_after-number-requires c = room_for_part c.written_after.result c.as_slice-whole.result.now c.part_digits-part.result.now c.written_after.ensures.small c.if-whole-part-gt-MOST_DIGITS.false

pub pow-scale-requires : goal.pow-scale-requires
pow-scale-requires c = let most = power_le (length c.part_digits-part.result.now) MOST_DIGITS (omega arith) in omega (arith, most)

pub signed-requires : goal.signed-requires
signed-requires c =
    let room = room_for_part c.written_after.result c.as_slice-whole.result.now c.part_digits-part.result.now c.written_after.ensures.small c.if-whole-part-gt-MOST_DIGITS.false in
    omega (arith, room, c.written_after-number.ensures.small)

pub overflow_cast-scale : goal.overflow_cast-scale
overflow_cast-scale c =
    let most = power_le (length c.part_digits-part.result.now) MOST_DIGITS (omega arith) in
    let small : c.pow-scale.result ≤ 10 ^ MOST_DIGITS = omega (arith, most, c.pow-scale.ensures) in
    omega (arith, ints)

pub returns : goal.returns
returns c =
    let d = c.args.self.now in
    let whole = c.as_slice-whole.result.now in
    let part = c.part_digits-part.result.now in
    let n = c.written_after-number.result in
    let scale = c.pow-scale.result in
    let most = power_le (length part) MOST_DIGITS (omega arith) in
    let small : scale ≤ 10 ^ MOST_DIGITS = omega (arith, most, c.pow-scale.ensures) in
    let room = room_for_part c.written_after.result whole part c.written_after.ensures.small c.if-whole-part-gt-MOST_DIGITS.false in
    let answer : c.of.result ≡ checked_quotient (signed d.negative n) (pos scale) = search rules in
    let number : n ≡ written_after 0 (digits_of d) =
    c.written_after-number.ensures.value ∙ ap (λ (m : ℕ). written_after m part) c.written_after.ensures.value ∙ sym (written_append 0 whole part)
    ∙ ap (λ (ds : List ℕ). written_after 0 (ds ++ part)) c.as_slice-whole.ensures ∙ ap (λ (ds : List ℕ). written_after 0 (d.whole ++ ds)) c.part_digits-part.ensures in
    let few : length (digits_of d) ≤ MOST_DIGITS = omega (arith, length-append d.whole (part_digits d.part), ap length c.as_slice-whole.ensures, ap length c.part_digits-part.ensures) in
    value_is d n scale c.of.result answer number (omega (arith, room, c.written_after-number.ensures.small)) (c.pow-scale.ensures ∙ ap (λ (ds : List ℕ). 10 ^ length ds) c.part_digits-part.ensures) (omega arith) few
