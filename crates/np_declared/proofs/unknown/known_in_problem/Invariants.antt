use Rattle.std.proofs.Common.{◌≡◌, drop}
use Rattle.std.specs.List.{flat_map}
use Rattle.np_names.specs.Declarations.{object_groups}
use Rattle.np_declared.specs.TypeRules.{unknown_in}
use Rattle.np_declared.proofs.unknown.known_in_problem.Given as goal

-- unknown types are in the sections that are left
abbrev pub invariant-loop-section : goal.invariant-loop-section
invariant-loop-section l =
    unknown_in l.types (flat_map object_groups l.problem.sections) ≡ unknown_in l.types (flat_map object_groups (drop l.section-index l.section-items))
