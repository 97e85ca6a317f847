use Rattle.std.proofs.Common.{◌≡◌, drop}
use Rattle.np_declared.specs.TypeRules.{unknown_in}
use Rattle.np_declared.proofs.unknown.known_in.Given as goal

-- unknown types are in the groups that are left
abbrev pub invariant-loop-group : goal.invariant-loop-group
invariant-loop-group l =
    unknown_in l.types l.groups ≡ unknown_in l.types (drop l.group-index l.groups)
