use Rattle.std.proofs.Common.{rules, ◌∙◌, ap, sym, Ok}
use Rattle.np_lex.specs.Lexers.{items_left}
use Rattle.np_cert.specs.declared.certificate.Limit.TheVariants.{Number}
use Rattle.np_cert.proofs.ReadingLexemes.{limit_taken}
use Rattle.np_cert.proofs.read.words.limit.Goals as goal

pub returns-in-Some : goal.returns-in-Some
returns-in-Some c =
    limit_taken c.args.lexer.now c.take_natural.new.self c.in-Some.number (search rules) c.in-Some.ensures.taken
    ∙ ap (λ n. Ok (Number n, items_left c.take_natural.new.self)) (sym c.from.ensures)
