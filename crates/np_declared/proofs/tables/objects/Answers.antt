use Rattle.std.proofs.Common.{◌++◌, ◌+◌, drop, ap, ◌∙◌}
use Rattle.std.specs.List.{flat_map}
use Rattle.np_names.specs.Declarations.{object_groups}
use Rattle.np_declared.specs.Types.{objects_in}
use Rattle.np_names.proofs.Lists.{part_next, put_front}
use Rattle.np_declared.proofs.TableLaws.{objects_more}
use Rattle.np_declared.proofs.tables.objects.Goals as goal

pub loop-section-preserved : goal.loop-section-preserved
loop-section-preserved c =
    let items = c.as_slice-section-items.result.now in
    let s = c.section-item.result in
    c.loop-section.invariant
    ∙ (ap (λ xs. c.loop-section.all ++ xs) (part_next (objects_in c.args.types.now) (objects_more c.args.types.now) object_groups items c.loop-section.section-index s c.loop-section-test.true c.section-item.is)
    ∙ put_front c.loop-section.all (objects_in c.args.types.now (object_groups s)) (objects_in c.args.types.now (flat_map object_groups (drop (c.loop-section.section-index + 1) items))) c.in_ok-all-2.all
    (rw c.object_groups.ensures at c.in_ok-all-2.ensures))
