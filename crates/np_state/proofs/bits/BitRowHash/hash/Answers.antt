use Rattle.std.proofs.Common.{◌≡◌, ◌∙◌, ap, sym, subst}
use Rattle.std.specs.Hash as fed
use Rattle.std.specs.List.{flat_map, fold}
use Rattle.np_state.specs.Words.{words_of}
use Rattle.np_state.proofs.Rows.{words_back}
use Rattle.np_state.proofs.bits.BitRowHash.hash.Goals as goal

pub returns : goal.returns
returns g c =
    let same : words_of c.args.self.now ≡ c.self.inside.words.0 = subst (λ row. words_of row ≡ c.self.inside.words.0) c.self.view_is (words_back c.self.inside.words.0 c.self.inside.words.1 c.self.invariant) in
    c.hash_slice.ensures ∙ ap (λ ws. fold g.H.Hasher.write c.args.state.now (flat_map fed.u64 ws)) (c.as_slice.ensures ∙ sym same)
