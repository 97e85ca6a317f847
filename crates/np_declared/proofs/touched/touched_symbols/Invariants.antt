use Rattle.std.proofs.Common.{◌≡◌, fold, drop}
use Rattle.std.specs.List.{flat_map}
use Rattle.np_names.specs.Names.{with_name, firsts, texts}
use Rattle.np_declared.specs.Symbols.{all_touched, all_changed, section_touched, section_changed}
use Rattle.np_declared.proofs.touched.touched_symbols.Given as goal

-- the symbols of the sections that are left are still to be added
abbrev pub invariant-loop-section : goal.invariant-loop-section
invariant-loop-section l =
    (firsts (texts (all_touched l.domain)) ≡ fold with_name l.all.predicates (texts (flat_map section_touched (drop l.section-index l.section-items))))
    × (firsts (texts (all_changed l.domain)) ≡ fold with_name l.all.functions (texts (flat_map section_changed (drop l.section-index l.section-items))))
