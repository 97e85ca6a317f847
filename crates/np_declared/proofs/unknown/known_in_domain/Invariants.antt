use Rattle.std.proofs.Common.{◌≡◌, drop}
use Rattle.std.specs.List.{flat_map}
use Rattle.np_declared.specs.TypeRules.{section_unknown}
use Rattle.np_declared.proofs.unknown.known_in_domain.Given as goal

-- unknown types are in the sections that are left
abbrev pub invariant-loop-section : goal.invariant-loop-section
invariant-loop-section l =
    flat_map (section_unknown l.types) l.domain.sections ≡ flat_map (section_unknown l.types) (drop l.section-index l.section-items)
