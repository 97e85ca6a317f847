use Rattle.std.proofs.Common.{eqb, ◌∙◌, ap, sym}
use Rattle.std.specs.Cmp.Lexicographic.{pointwise}
use Rattle.np_state.proofs.Rows.{equal_words, unequal_lengths}
use Rattle.np_state.proofs.bits.BitRowPartialEq.eq.Goals as goal

pub returns-then-len : goal.returns-then-len
returns-then-len c =
    rw (← c.self.view_is, ← c.other.view_is)
    (c.eq.ensures
    ∙ ap (λ ws. pointwise eqb ws c.as_slice-then-len.result.now) c.as_slice.ensures
    ∙ ap (pointwise eqb c.self.inside.words.0) c.as_slice-then-len.ensures
    ∙ equal_words c.self.inside.words.0 c.other.inside.words.0 c.self.inside.words.1 c.other.inside.words.1 c.self.invariant c.other.invariant (sym c.len.ensures ∙ (c.if-len.true ∙ c.len-2.ensures)))

pub returns-else-len : goal.returns-else-len
returns-else-len c =
    rw (← c.self.view_is, ← c.other.view_is)
    (ap (λ n. eqb n c.len-2.result) c.len.ensures
    ∙ ap (eqb c.self.inside.words.1) c.len-2.ensures
    ∙ unequal_lengths c.self.inside.words.0 c.other.inside.words.0 c.self.inside.words.1 c.other.inside.words.1 (λ e. c.if-len.false (c.len.ensures ∙ (e ∙ sym c.len-2.ensures))))
