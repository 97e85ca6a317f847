use Rattle.std.proofs.Common.{arith}
use Rattle.np_lex.proofs.Comments.{passes_comment}
use Rattle.np_lex.proofs.blanks.blank_length.Goals as goal

pub loop-n-preserved-then-byte-gt32 : goal.loop-n-preserved-then-byte-gt32
loop-n-preserved-then-byte-gt32 c =
    let passed = passes_comment c.args.bytes.now c.loop-n.n c.line_length-n.result c.loop-n-test.true c.if-byte-ne59.false c.line_length-n.ensures.value in
    record {
      in_range = omega (arith, c.line_length-n.ensures.in_range);
      so_far = omega (arith, passed.so_far);
    }
