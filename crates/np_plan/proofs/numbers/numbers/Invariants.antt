use Rattle.std.proofs.Common.{map, drop}
use Rattle.np_plan.specs.Numbers.{HasNumbersFrom}
use Rattle.np_plan.proofs.numbers.numbers.Given as goal

abbrev pub invariant-loop-number : goal.invariant-loop-number
invariant-loop-number g l = HasNumbersFrom l.number l.numbers (drop l.number (map g.N.Named.name_of l.items))
