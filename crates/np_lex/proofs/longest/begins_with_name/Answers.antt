use Rattle.std.proofs.Common.{◌∙◌, sym, ap, not}
use Rattle.np_lex.specs.FirstToken.{begins_with_name_byte}
use Rattle.np_lex.specs.Tokens.{lower}
use Rattle.np_lex.proofs.Names.{name_found, name_ends, not_true}
use Rattle.np_lex.proofs.longest.begins_with_name.Goals as goal

pub returns-then-is_small_word : goal.returns-then-is_small_word
returns-then-is_small_word c = (
  λ ends. name_found c.args.bytes.now c.args.name.now c.requires.name c.if-bytes-name.false (ap lower (sym c.split_at.ensures.front) ∙ c.is_small_word.ensures.0 c.if-is_small_word.true)
      (ap begins_with_name_byte (sym c.split_at.ensures.back) ∙ sym c.begins_with_name_byte.ensures ∙ not_true _ ends),
  λ begins. ap not (c.begins_with_name_byte.ensures ∙ ap begins_with_name_byte c.split_at.ensures.back ∙ (name_ends c.args.bytes.now c.args.name.now begins).ends),
)
