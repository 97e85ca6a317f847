use Rattle.std.proofs.lemmas.Result.{err_from_is_err_and}
use Rattle.np_lex.specs.Lexers.{items_left}
use Rattle.np_read.proofs.Good.{is_shorter}
use Rattle.np_plan.specs.PlanForm.{to_end, line}
use Rattle.np_plan.proofs.Lexing.{goes_on, stops, done}
use Rattle.np_plan.proofs.Lines.{starting_line}
use Rattle.np_plan.proofs.read.lines.lines_to_end.Goals as goal

pub lines-smaller : goal.lines-smaller
lines-smaller c = is_shorter (line c.args.stamped) (starting_line c.args.stamped) (items_left c.lines.lexer) c.in_ok-line.line (items_left c.line.new.lexer) c.in_ok-line.ensures

pub lines-preserved : goal.lines-preserved
lines-preserved c =
    rw c.in_ok-push.ensures.ok
    (goes_on (line c.args.stamped) (starting_line c.args.stamped) c.lines.found (items_left c.lines.lexer) (items_left c.line.new.lexer) c.in_ok-line.line (to_end (line c.args.stamped) (items_left c.args.lexer.now))
    (c.ends.ensures.other c.lines-test.true) c.in_ok-line.ensures c.lines.invariant)

pub returns-in_err-line-clause-stops : goal.returns-in_err-line-clause-stops
returns-in_err-line-clause-stops c =
    let p = err_from_is_err_and c.from_residual.result c.from_residual.ensures.1 in
    rw (p.1, p.2)
    (stops (line c.args.stamped) (starting_line c.args.stamped) c.in_err-line.field-0.0 c.lines.found (items_left c.lines.lexer) (items_left c.line.new.lexer) (to_end (line c.args.stamped) (items_left c.args.lexer.now))
    (c.ends.ensures.other c.lines-test.true) c.in_err-line.ensures c.lines.invariant)

pub returns-clause-read : goal.returns-clause-read
returns-clause-read c =
    done (line c.args.stamped) (starting_line c.args.stamped) c.lines.found (items_left c.lines.lexer) (to_end (line c.args.stamped) (items_left c.args.lexer.now)) (c.ends.ensures.ended c.lines-test.false) c.lines.invariant
