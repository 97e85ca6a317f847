use Rattle.std.proofs.Common.{◌<◌, arith, get_or}
use Rattle.std.specs.Char.{digit_value}
use Rattle.std.proofs.lemmas.Int.Digits.{digits_more, digits_value_more}
use Rattle.np_lex.proofs.Digits.{value_below, one_more, digit_is, in_range}
use Rattle.np_lex.proofs.numbers.short_digits.Goals as goal

pub overflow_mul-number : goal.overflow_mul-number
overflow_mul-number c =
    omega (arith, value_below c.args.bytes.now c.loop-count.count c.loop-count.invariant.few c.loop-count.invariant.digits)

pub overflow_add-number : goal.overflow_add-number
overflow_add-number c =
    let d = get_or c.args.bytes.now c.loop-count.count 0 in
    let digit = digit_is d c.from.result (in_range d c.if-is_ascii_digit.ensures.value) c.from.ensures in
    omega (arith, digit.1, value_below c.args.bytes.now c.loop-count.count c.loop-count.invariant.few c.loop-count.invariant.digits)

pub loop-count-preserved : goal.loop-count-preserved
loop-count-preserved c =
    let i = c.loop-count.count in
    let bytes = c.args.bytes.now in
    let d = get_or bytes i 0 in
    let digit = digit_is d c.from.result (in_range d c.if-is_ascii_digit.ensures.value) c.from.ensures in
    let small : digit_value d < 10 = omega (arith, digit.0, digit.1) in
    record {
      in_range = omega arith;
      few = omega arith;
      so_far = one_more bytes i _ c.loop-count-test.true c.if-is_ascii_digit.ensures.value c.loop-count.invariant.so_far;
      digits = digits_more 10 bytes i c.loop-count-test.true c.loop-count.invariant.digits small;
      value = omega (arith, digit.0, c.loop-count.invariant.value, digits_value_more 10 bytes i c.loop-count-test.true);
    }
