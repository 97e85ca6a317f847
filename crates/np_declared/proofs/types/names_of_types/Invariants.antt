use Rattle.std.proofs.Common.{◌≡◌, fold, drop}
use Rattle.std.specs.List.{flat_map}
use Rattle.np_names.specs.Declarations.{type_groups, all_types}
use Rattle.np_names.specs.Names.{with_name, texts}
use Rattle.np_declared.specs.Types.{type_words, type_names}
use Rattle.np_declared.proofs.types.names_of_types.Given as goal

-- the types that are left are still to be added
abbrev pub invariant-loop-section : goal.invariant-loop-section
invariant-loop-section l =
    type_names (all_types l.domain) ≡ fold with_name l.names (texts (flat_map type_words (flat_map type_groups (drop l.section-index l.section-items))))
