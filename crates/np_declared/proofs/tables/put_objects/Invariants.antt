use Rattle.std.proofs.Common.{◌≡◌, ◌++◌, drop}
use Rattle.np_declared.specs.Types.{objects_in}
use Rattle.np_declared.proofs.tables.put_objects.Given as goal

-- those of the groups that are left are still to be put
abbrev pub invariant-loop-group : goal.invariant-loop-group
invariant-loop-group l =
    l.fn.objects ++ objects_in l.types l.groups ≡ l.all ++ objects_in l.types (drop l.group-index l.groups)
