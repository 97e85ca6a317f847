use Rattle.std.proofs.lemmas.Result.{err_from_is_err_and}
use Rattle.np_lex.specs.Lexers.{items_left}
use Rattle.np_plan.proofs.Lexing.{unsigned_read, signed_refused, unsigned_stops}
use Rattle.np_plan.proofs.read.lines.unsigned.Goals as goal

pub returns-in_err-found : goal.returns-in_err-found
returns-in_err-found c =
    let p = err_from_is_err_and c.from_residual.result c.from_residual.ensures.1 in
    rw (p.1, p.2) (unsigned_stops c.in_err-found.field-0.0 (items_left c.args.lexer.now) (items_left c.number.new.lexer) c.in_err-found.ensures)

pub returns-then-found : goal.returns-then-found
returns-then-found c = signed_refused (items_left c.args.lexer.now) (items_left c.number.new.lexer) c.in_ok-found.found c.in_ok-found.ensures c.if-found.true

pub returns : goal.returns
returns c = unsigned_read (items_left c.args.lexer.now) (items_left c.number.new.lexer) c.in_ok-found.found c.in_ok-found.ensures c.if-found.false
