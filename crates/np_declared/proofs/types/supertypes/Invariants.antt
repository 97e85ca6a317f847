use Rattle.std.proofs.Common.{take}
use Rattle.std.specs.List.{flat_map}
use Rattle.np_names.specs.Declarations.{type_groups}
use Rattle.np_declared.specs.LookUps.{HasSupertypes}
use Rattle.np_names.specs.Names.{typed_words}
use Rattle.np_declared.proofs.types.supertypes.Given as goal

-- the words of the sections so far are put
abbrev pub invariant-loop-section : goal.invariant-loop-section
invariant-loop-section l = HasSupertypes (typed_words (flat_map type_groups (take l.section-index l.section-items))) l.all
