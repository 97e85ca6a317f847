use Rattle.std.proofs.Common.{◌≡◌, drop, filter, not, bytes_eq}
use Rattle.std.specs.List.{flat_map}
use Rattle.np_names.specs.Sections.{domain_names}
use Rattle.np_names.proofs.sections.of_domain.Given as goal

-- names of other domains are among those that are left
abbrev pub invariant-loop-section : goal.invariant-loop-section
invariant-loop-section l =
    filter (λ w. not (bytes_eq w.text l.domain.name.text)) (flat_map domain_names l.problem.sections)
    ≡ filter (λ w. not (bytes_eq w.text l.domain.name.text)) (flat_map domain_names (drop l.section-index l.problem.sections))
