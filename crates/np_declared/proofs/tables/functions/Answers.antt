use Rattle.std.proofs.Common.{◌++◌, ◌+◌, map, drop, ap, ◌∙◌}
use Rattle.std.specs.List.{flat_map}
use Rattle.np_names.specs.Declarations.{declared_functions}
use Rattle.np_declared.specs.Symbols.{signature}
use Rattle.np_names.proofs.Lists.{part_next, put_front}
use Rattle.np_declared.proofs.TableLaws.{signatures_more}
use Rattle.np_declared.proofs.tables.functions.Goals as goal

pub loop-section-preserved : goal.loop-section-preserved
loop-section-preserved c =
    let items = c.as_slice-section-items.result.now in
    let s = c.section-item.result in
    c.loop-section.invariant
    ∙ (ap (λ xs. c.loop-section.all ++ xs) (part_next (map (signature c.args.types.now c.args.named.now)) (signatures_more c.args.types.now c.args.named.now) declared_functions items c.loop-section.section-index s c.loop-section-test.true c.section-item.is)
    ∙ put_front c.loop-section.all (map (signature c.args.types.now c.args.named.now) (declared_functions s)) (map (signature c.args.types.now c.args.named.now) (flat_map declared_functions (drop (c.loop-section.section-index + 1) items))) c.in_ok-all.all
    (rw c.declared_functions.ensures at c.in_ok-all.ensures))
