use Rattle.std.proofs.Common.{◌<◌, arith}
use Rattle.np_state.proofs.Rows.{len_of, word_within, value_read}
use Rattle.np_state.proofs.bits.BitRow.get.Goals as goal

pub at-requires : goal.at-requires
at-requires c =
    let within : c.args.i < c.self.inside.words.1 = omega (arith, len_of c.self.inside.words.0 c.self.inside.words.1 c.args.self.now c.self.view_is) in
    word_within c.self.inside.words.0 c.self.inside.words.1 c.args.i c.self.invariant within

pub returns : goal.returns
returns c =
    let within : c.args.i < c.self.inside.words.1 = omega (arith, len_of c.self.inside.words.0 c.self.inside.words.1 c.args.self.now c.self.view_is) in
    value_read c.self.inside.words.0 c.self.inside.words.1 c.args.self.now c.args.i c.at.result c.is_set.result c.self.view_is within c.at.ensures c.is_set.ensures
