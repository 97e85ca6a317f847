use Rattle.np_read.proofs.Pieces.{token_left}
use Rattle.np_read.proofs.at_end.is_at_end.Goals as goal

pub returns-in-Ok-Some : goal.returns-in-Ok-Some
returns-in-Ok-Some c =
    (λ e. absurd cc, λ e. absurd (token_left c.args.lexer.now c.next.new.self c.in-Ok-Some.field-0-0 (rw c.in-Ok-Some.field-0-is at c.in-Ok-Some.ensures.token) e))
