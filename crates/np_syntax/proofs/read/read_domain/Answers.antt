use Rattle.std.proofs.Common.{[]}
use Rattle.np_lex.specs.Lexers.{items_left}
use Rattle.np_lex.specs.Tokens.{items_of}
use Rattle.np_syntax.specs.ActionForm.{domain}
use Rattle.np_syntax.specs.Domains.{bare_domain}
use Rattle.np_syntax.proofs.DomainLaws.{good_domain, reads_domain, placed_domain}
use Rattle.np_syntax.proofs.OneRead.{value_read}
use Rattle.np_words.proofs.TextAnswers.{value_spelled, value_placed, value_only, value_wide, value_refused, stop_fault, stop_wide, stop_refused}
use Rattle.np_syntax.proofs.read.read_domain.Goals as goal

pub returns-in-Ok-clause-spelled : goal.returns-in-Ok-clause-spelled
returns-in-Ok-clause-spelled c =
    value_spelled bare_domain good_domain reads_domain placed_domain c.args.bytes.now c.in-Ok.domain [] (rw c.new-lexer.ensures.items at c.in-Ok.ensures.read) c.settled.result c.settled.ensures

pub returns-in-Ok-clause-placed : goal.returns-in-Ok-clause-placed
returns-in-Ok-clause-placed c =
    value_placed bare_domain good_domain reads_domain placed_domain c.args.bytes.now c.in-Ok.domain [] (rw c.new-lexer.ensures.items at c.in-Ok.ensures.read) c.settled.result c.settled.ensures

pub returns-in-Ok-clause-read : goal.returns-in-Ok-clause-read
returns-in-Ok-clause-read c =
    value_read domain (items_of c.args.bytes.now) c.in-Ok.domain (rw c.new-lexer.ensures.items at c.in-Ok.ensures.read) c.settled.result c.settled.ensures

pub returns-in-Ok-clause-only : goal.returns-in-Ok-clause-only
returns-in-Ok-clause-only c =
    value_only bare_domain good_domain reads_domain placed_domain c.args.bytes.now c.in-Ok.domain [] (rw c.new-lexer.ensures.items at c.in-Ok.ensures.read) c.settled.result c.settled.ensures

pub returns-in-Ok-clause-wide : goal.returns-in-Ok-clause-wide
returns-in-Ok-clause-wide c =
    value_wide bare_domain good_domain reads_domain placed_domain c.args.bytes.now c.in-Ok.domain [] (rw c.new-lexer.ensures.items at c.in-Ok.ensures.read) c.settled.result c.settled.ensures

pub returns-in-Ok-clause-refused : goal.returns-in-Ok-clause-refused
returns-in-Ok-clause-refused c fault answered e =
    value_refused bare_domain good_domain reads_domain placed_domain c.args.bytes.now c.in-Ok.domain [] (rw c.new-lexer.ensures.items at c.in-Ok.ensures.read) c.settled.result c.settled.ensures fault e

pub returns-in-Err-Next-clause-fault : goal.returns-in-Err-Next-clause-fault
returns-in-Err-Next-clause-fault c place e =
    stop_fault bare_domain good_domain reads_domain placed_domain c.args.bytes.now (items_left c.whole_domain.new.lexer) c.place.result (rw (c.new-lexer.ensures.items, c.in-Err-Next.field-0-is) at c.in-Err-Next.ensures.stops) c.place.ensures c.fault_from.result c.fault_from.ensures place e

pub returns-in-Err-Next-clause-wide : goal.returns-in-Err-Next-clause-wide
returns-in-Err-Next-clause-wide c place e =
    stop_wide bare_domain good_domain reads_domain placed_domain c.args.bytes.now (items_left c.whole_domain.new.lexer) c.place.result (rw (c.new-lexer.ensures.items, c.in-Err-Next.field-0-is) at c.in-Err-Next.ensures.stops) c.place.ensures c.fault_from.result c.fault_from.ensures place e

pub returns-in-Err-Next-clause-refused : goal.returns-in-Err-Next-clause-refused
returns-in-Err-Next-clause-refused c fault answered e =
    stop_refused bare_domain good_domain reads_domain placed_domain c.args.bytes.now (items_left c.whole_domain.new.lexer) c.place.result (rw (c.new-lexer.ensures.items, c.in-Err-Next.field-0-is) at c.in-Err-Next.ensures.stops) c.place.ensures
