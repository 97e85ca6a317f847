use Rattle.std.proofs.Common.{◌≡◌, ◌++◌, drop}
use Rattle.std.specs.List.{flat_map}
use Rattle.np_names.specs.Declarations.{all_constants, all_objects, object_groups}
use Rattle.np_declared.specs.Types.{objects_in}
use Rattle.np_declared.proofs.tables.objects.Given as goal

-- the objects of the sections that are left are still to be put
abbrev pub invariant-loop-section : goal.invariant-loop-section
invariant-loop-section l =
    objects_in l.types (all_constants l.domain) ++ objects_in l.types (all_objects l.problem) ≡ l.all ++ objects_in l.types (flat_map object_groups (drop l.section-index l.section-items))
