use Rattle.std.proofs.Common.{◌≡◌, [], take, drop}
use Rattle.np_names.specs.Declarations.{section_repeats}
use Rattle.np_names.specs.DeclaredNames.{HasNames}
use Rattle.np_names.specs.Names.{each_after}
use Rattle.np_names.proofs.declarations.of_domain.Given as goal

-- the sections so far are taken in, and what comes again is in those that are left
abbrev pub invariant-loop-section : goal.invariant-loop-section
invariant-loop-section l =
    HasNames (take l.section-index l.section-items) l.all
    × (each_after section_repeats [] l.domain.sections ≡ each_after section_repeats (take l.section-index l.section-items) (drop l.section-index l.section-items))
