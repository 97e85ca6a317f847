use Rattle.std.proofs.Common.{◌∙◌}
use Rattle.np_state.proofs.Rows.{len_of}
use Rattle.np_state.proofs.bits.BitRow.len.Goals as goal

pub returns : goal.returns
returns c = c.len.ensures ∙ len_of c.self.inside.words.0 c.self.inside.words.1 c.args.self.now c.self.view_is
