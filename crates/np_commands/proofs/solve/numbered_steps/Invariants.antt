use Rattle.std.proofs.Common.{take}
use Rattle.np_commands.specs.Steps.{StandFor}
use Rattle.np_commands.proofs.solve.numbered_steps.Given as goal

abbrev pub invariant-loop-number : goal.invariant-loop-number
invariant-loop-number l = StandFor l.flat (take l.number-index l.numbers) l.steps.items
