use Rattle.std.proofs.Common.{◌++◌, ◌+◌, map, drop, ap, ◌∙◌}
use Rattle.np_declared.specs.Types.{type_number, objects_in}
use Rattle.np_names.proofs.Lists.{put_front}
use Rattle.np_declared.proofs.TableLaws.{objects_next}
use Rattle.np_declared.proofs.tables.put_objects.Goals as goal

pub loop-group-preserved : goal.loop-group-preserved
loop-group-preserved c =
    let types = c.args.types.now in
    let g = c.group-item.result in
    c.loop-group.invariant
    ∙ (ap (λ os. c.loop-group.all ++ os) (objects_next types c.args.groups.now c.loop-group.group-index g c.loop-group-test.true c.group-item.is)
    ∙ put_front c.loop-group.all (map (λ w. record { name = w.text; of = type_number types g.of }) g.words) (objects_in types (drop (c.loop-group.group-index + 1) c.args.groups.now)) c.in_ok-all.all
    (rw (c.type_number-of.ensures, c.as_slice.ensures) at c.in_ok-all.ensures))
