use Rattle.np_state.proofs.Rows.{bit_made_one, bit_made_zero}
use Rattle.np_state.proofs.bits.with_bit.Goals as goal

pub returns-then-on : goal.returns-then-on
returns-then-on c = bit_made_one c.args.word c.args.place c.args.on c.requires c.if-on.true

pub returns-else-on : goal.returns-else-on
returns-else-on c = bit_made_zero c.args.word c.args.place c.args.on c.requires c.if-on.false
