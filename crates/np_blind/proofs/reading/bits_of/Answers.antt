use Rattle.np_blind.proofs.Bits.{set_none}
use Rattle.np_blind.proofs.reading.bits_of.Goals as goal

pub returns : goal.returns
returns c = set_none c.args.count c.args.numbers.now c.in_ok-bits.bits c.set_all.new.bits c.in_ok-bits.ensures c.set_all.ensures
