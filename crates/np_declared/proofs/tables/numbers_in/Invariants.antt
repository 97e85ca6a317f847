use Rattle.std.proofs.Common.{◌≡◌, ◌++◌, drop}
use Rattle.np_declared.specs.Types.{numbers_in}
use Rattle.np_declared.proofs.tables.numbers_in.Given as goal

-- those of the groups that are left are still to be put
abbrev pub invariant-loop-group : goal.invariant-loop-group
invariant-loop-group l =
    numbers_in l.types l.groups ≡ l.numbers ++ numbers_in l.types (drop l.group-index l.groups)
