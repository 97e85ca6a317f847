use Rattle.np_plan.proofs.Lexing.{left_decided}
use Rattle.np_plan.proofs.read.lines.begins_with_left.Goals as goal

pub returns : goal.returns
returns c = left_decided c.args.lexer.now c.take_left.new.self c.take_left.result c.take_left.ensures.taken c.take_left.ensures.other
