use Rattle.std.proofs.Common.{◌≡◌, drop}
use Rattle.np_declared.specs.TypeRules.{cyclic_words}
use Rattle.np_declared.proofs.types.acyclic_groups.Given as goal

-- types under themselves are in the groups that are left
abbrev pub invariant-loop-group : goal.invariant-loop-group
invariant-loop-group l =
    cyclic_words l.types l.groups ≡ cyclic_words l.types (drop l.group-index l.groups)
