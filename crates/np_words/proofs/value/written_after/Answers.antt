use Rattle.std.proofs.Common.{arith}
use Rattle.np_words.proofs.Numbers.{written_below, room_next, fits_next, written_next, written_all}
use Rattle.np_words.proofs.value.written_after.Goals as goal

pub overflow_mul-number : goal.overflow_mul-number
overflow_mul-number c =
    let loop = c.loop-byte in
    let fits = fits_next loop.number 0 c.args.digits.now loop.byte-index c.loop-byte-test.true (omega arith) loop.invariant.within in
    omega (arith, fits)

pub overflow_add-number : goal.overflow_add-number
overflow_add-number c =
    let loop = c.loop-byte in
    let fits = fits_next loop.number c.from.result c.args.digits.now loop.byte-index c.loop-byte-test.true (omega (arith, c.from.ensures, c.digit_of.ensures.small)) loop.invariant.within in
    omega (arith, fits)

pub loop-byte-preserved : goal.loop-byte-preserved
loop-byte-preserved c =
    let loop = c.loop-byte in
    record {
      value = written_next loop.number c.from.result c.args.before c.args.digits.now loop.byte-index c.loop-byte-test.true (omega (arith, c.from.ensures, c.digit_of.ensures.value)) loop.invariant.value;
      within = room_next loop.number c.from.result c.args.digits.now loop.byte-index c.loop-byte-test.true (omega (arith, c.from.ensures, c.digit_of.ensures.small)) loop.invariant.within;
    }

pub returns-clause-small : goal.returns-clause-small
returns-clause-small c =
    let value = written_all c.loop-byte.number c.args.before c.args.digits.now c.loop-byte.byte-index c.loop-byte-test.false c.loop-byte.invariant.value in
    omega (arith, value, written_below c.args.before c.args.digits.now)
