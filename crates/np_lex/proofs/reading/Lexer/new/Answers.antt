use Rattle.std.proofs.Common.{ap, drop, ◌∙◌}
use Rattle.np_lex.specs.Blanks.{blank_length}
use Rattle.np_lex.specs.Tokens.{items_from}
use Rattle.np_lex.specs.Lexers.{items_left}
use Rattle.np_lex.proofs.Streams.{no_blanks_ahead, items_from-start}
use Rattle.np_lex.proofs.reading.Lexer.new.Goals as goal

pub invariant_of-result-clause-no_blank_next : goal.invariant_of-result-clause-no_blank_next
invariant_of-result-clause-no_blank_next c =
    ap (λ n. blank_length (drop n c.args.bytes.now)) c.blank_length.ensures.value ∙ no_blanks_ahead c.args.bytes.now

pub returns-clause-items : goal.returns-clause-items
unfolding items_left
returns-clause-items c = ap (items_from c.args.bytes.now) c.blank_length.ensures.value ∙ items_from-start c.args.bytes.now
