use Rattle.std.proofs.Common.{◌+◌, ap, drop, ◌∙◌}
use Rattle.std.proofs.lemmas.List.{take_rest}
use Rattle.np_lex.specs.Blanks.{blank_length}
use Rattle.np_lex.proofs.Streams.{no_blanks_after}
use Rattle.np_lex.proofs.reading.Lexer.after_blanks.Goals as goal

pub returns-clause-no_blank : goal.returns-clause-no_blank
returns-clause-no_blank c =
    let bytes = c.args.self.now.bytes.now in
    let from = c.args.from in
    ap (λ n. blank_length (drop (from + n) bytes)) (c.blank_length.ensures.value ∙ ap blank_length (take_rest bytes from)) ∙ no_blanks_after bytes from
