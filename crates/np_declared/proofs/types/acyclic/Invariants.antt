use Rattle.std.proofs.Common.{◌≡◌, drop}
use Rattle.std.specs.List.{flat_map}
use Rattle.np_names.specs.Declarations.{type_groups, all_types}
use Rattle.np_declared.specs.TypeRules.{cyclic_words}
use Rattle.np_declared.proofs.types.acyclic.Given as goal

-- types under themselves are in the sections that are left
abbrev pub invariant-loop-section : goal.invariant-loop-section
invariant-loop-section l =
    cyclic_words l.types (all_types l.domain) ≡ cyclic_words l.types (flat_map type_groups (drop l.section-index l.section-items))
