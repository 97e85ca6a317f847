use Rattle.std.proofs.Common.{◌≡◌, ◌++◌}
use Rattle.np_typing.proofs.uses.start.values_of.Given as goal

-- those so far and those that are left
abbrev pub invariant-loop-value : goal.invariant-loop-value
invariant-loop-value l = l.all ++ l.value-iterator ≡ l.fn.values.entries
