use Rattle.std.proofs.Common.{◌≡◌, ◌++◌, drop}
use Rattle.std.specs.List.{flat_map}
use Rattle.np_names.specs.Declarations.{all_objects, object_groups}
use Rattle.np_names.specs.Names.{repeats, texts, words_of}
use Rattle.np_names.proofs.declarations.put_objects.Given as goal

-- the objects of the sections that are left are still to be put, and what comes again is among them
abbrev pub invariant-loop-section : goal.invariant-loop-section
invariant-loop-section l =
    (l.initial.objects ++ texts (words_of (all_objects l.problem)) ≡ l.objects ++ texts (words_of (flat_map object_groups (drop l.section-index l.section-items))))
    × (repeats l.initial.objects (words_of (all_objects l.problem)) ≡ repeats l.objects (words_of (flat_map object_groups (drop l.section-index l.section-items))))
