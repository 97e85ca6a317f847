use Rattle.std.proofs.Common.{◌≡◌, drop}
use Rattle.std.specs.List.{list_any}
use Rattle.np_names.specs.Sections.{is_domain_name}
use Rattle.np_names.proofs.sections.has_domain.Given as goal

-- it is among those that are left
abbrev pub invariant-loop-section : goal.invariant-loop-section
invariant-loop-section l = list_any is_domain_name l.sections ≡ list_any is_domain_name (drop l.section-index l.sections)
