use Rattle.std.proofs.Common.{◌+◌, drop, fold, ap, ◌∙◌}
use Rattle.std.specs.List.{flat_map}
use Rattle.np_names.specs.Declarations.{type_groups}
use Rattle.np_names.specs.Names.{with_name, texts}
use Rattle.np_declared.specs.Types.{type_words}
use Rattle.np_names.proofs.Lists.{part_next}
use Rattle.np_names.proofs.Repeats.{add_front}
use Rattle.np_declared.proofs.TableLaws.{type_words_more}
use Rattle.np_declared.proofs.types.names_of_types.Goals as goal

pub loop-section-preserved : goal.loop-section-preserved
loop-section-preserved c =
    c.loop-section.invariant
    ∙ (ap (λ ws. fold with_name c.loop-section.names (texts ws))
    (part_next (flat_map type_words) type_words_more type_groups c.as_slice-section-items.result.now c.loop-section.section-index c.section-item.result c.loop-section-test.true c.section-item.is)
    ∙ add_front c.loop-section.names c.add_groups.new.names (flat_map type_words (type_groups c.section-item.result))
    (flat_map type_words (flat_map type_groups (drop (c.loop-section.section-index + 1) c.as_slice-section-items.result.now)))
    (rw c.type_groups.ensures at c.in_ok-add_groups.ensures.1))
