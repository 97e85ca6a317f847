use Rattle.std.proofs.Common.{◌≡◌, ◌++◌, drop}
use Rattle.np_names.specs.Declarations.{listed_types}
use Rattle.np_names.specs.Names.{repeats, texts}
use Rattle.np_names.proofs.declarations.put_types.Given as goal

-- the types that are left are still to be put, and what comes again is among them
abbrev pub invariant-loop-group : goal.invariant-loop-group
invariant-loop-group l =
    (l.initial.names ++ texts (listed_types l.groups) ≡ l.names ++ texts (listed_types (drop l.group-index l.groups)))
    × (repeats l.initial.names (listed_types l.groups) ≡ repeats l.names (listed_types (drop l.group-index l.groups)))
