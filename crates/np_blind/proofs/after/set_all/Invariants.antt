use Rattle.std.proofs.Common.{take}
use Rattle.np_blind.specs.Bits.{IsSet}
use Rattle.np_blind.proofs.after.set_all.Given as goal

abbrev pub invariant-loop-place : goal.invariant-loop-place
invariant-loop-place l = IsSet l.on (take l.place-index l.places) l.fn.bits l.bits
