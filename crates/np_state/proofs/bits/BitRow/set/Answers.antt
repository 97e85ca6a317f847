use Rattle.std.proofs.Common.{ℕ, List, ◌<◌, sym, subst, ◌∙◌, ap, arith}
use Rattle.np_state.specs.Words.{row_of, ArePacked}
use Rattle.np_state.proofs.Rows.{len_of, word_within, row_after, packed_after}
use Rattle.np_state.proofs.bits.BitRow.set.Goals as goal

pub at-requires : goal.at-requires
at-requires c =
    let within : c.args.i < c.self.inside.words.1 = omega (arith, len_of c.self.inside.words.0 c.self.inside.words.1 c.args.self.now c.self.view_is) in
    word_within c.self.inside.words.0 c.self.inside.words.1 c.args.i c.self.invariant within

pub set-requires : goal.set-requires
set-requires c =
    let within : c.args.i < c.self.inside.words.1 = omega (arith, len_of c.self.inside.words.0 c.self.inside.words.1 c.args.self.now c.self.view_is) in
    word_within c.self.inside.words.0 c.self.inside.words.1 c.args.i c.self.invariant within

pub invariant_of-self : goal.invariant_of-self
invariant_of-self c =
    let within : c.args.i < c.self.inside.words.1 = omega (arith, len_of c.self.inside.words.0 c.self.inside.words.1 c.args.self.now c.self.view_is) in
    subst (λ (w : List ℕ × ℕ). ArePacked w.0 w.1) (sym c.set.ensures)
    (packed_after c.self.inside.words.0 c.self.inside.words.1 c.args.i c.at.result c.with_bit-word.result c.args.on c.self.invariant within c.with_bit-word.type_inv c.at.ensures c.with_bit-word.ensures)

pub returns : goal.returns
returns c =
    let within : c.args.i < c.self.inside.words.1 = omega (arith, len_of c.self.inside.words.0 c.self.inside.words.1 c.args.self.now c.self.view_is) in
    ap (λ (w : List ℕ × ℕ). row_of w.0 w.1) c.set.ensures
    ∙ row_after c.self.inside.words.0 c.self.inside.words.1 c.args.self.now c.args.i c.at.result c.with_bit-word.result c.args.on c.self.invariant c.self.view_is within c.at.ensures c.with_bit-word.ensures
