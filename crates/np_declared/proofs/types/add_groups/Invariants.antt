use Rattle.std.proofs.Common.{◌≡◌, fold, drop}
use Rattle.std.specs.List.{flat_map}
use Rattle.np_names.specs.Names.{with_name, texts}
use Rattle.np_declared.specs.Types.{type_words}
use Rattle.np_declared.proofs.types.add_groups.Given as goal

-- the types that are left are still to be added
abbrev pub invariant-loop-group : goal.invariant-loop-group
invariant-loop-group l =
    fold with_name l.initial.names (texts (flat_map type_words l.groups)) ≡ fold with_name l.names (texts (flat_map type_words (drop l.group-index l.groups)))
