use Rattle.std.proofs.Common.{◌<◌, arith}
use Rattle.np_lex.specs.Lexers.{items_left}
use Rattle.np_conditions.proofs.EffectLexing.{target_called, target_alone, target_none}
use Rattle.np_conditions.proofs.read.effects.target.Goals as goal

pub returns-then-depth-eq0 : goal.returns-then-depth-eq0
returns-then-depth-eq0 c =
    target_none c.args.depth (items_left c.args.lexer.now) (items_left c.bare_target.new.lexer) c.bare_target.result c.if-depth-eq0.true c.bare_target.ensures

pub returns-then-take_left : goal.returns-then-take_left
returns-then-take_left c =
    let some : 0 < c.args.depth = omega (arith, c.if-depth-eq0.false) in
    target_called c.args.depth c.args.lexer.now c.take_left.new.self (items_left c.called_target.new.lexer) c.called_target.result some (c.take_left.ensures.taken c.if-take_left.true) c.called_target.ensures

pub returns : goal.returns
returns c =
    let some : 0 < c.args.depth = omega (arith, c.if-depth-eq0.false) in
    target_alone c.args.depth c.args.lexer.now c.take_left.new.self (items_left c.bare_target-2.new.lexer) c.bare_target-2.result some (c.take_left.ensures.other c.if-take_left.false) c.bare_target-2.ensures
