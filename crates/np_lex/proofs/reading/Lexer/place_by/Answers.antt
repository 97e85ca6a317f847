use Rattle.std.proofs.Common.{arith}
use Rattle.np_lex.proofs.LineCounts.{columns_le, place_at}
use Rattle.np_lex.proofs.reading.Lexer.place_by.Goals as goal

pub returns : goal.returns
returns c = place_at c.args.self.now.bytes.now c.args.self.now.offset c.args.lines c.requires

pub overflow_add-result-2 : goal.overflow_add-result-2
overflow_add-result-2 c =
    omega (arith, c.requires.columns, columns_le c.args.self.now.offset c.args.self.now.bytes.now, c.args.self.now.in_range, c.args.self.now.short)
