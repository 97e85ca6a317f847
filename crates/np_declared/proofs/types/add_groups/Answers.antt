use Rattle.std.proofs.Common.{◌+◌, drop, fold, ap, ◌∙◌}
use Rattle.std.specs.List.{flat_map}
use Rattle.np_names.specs.Names.{with_name, texts}
use Rattle.np_declared.specs.Types.{type_words}
use Rattle.np_names.proofs.Lists.{flat_map_next}
use Rattle.np_names.proofs.Repeats.{add_front}
use Rattle.np_declared.proofs.types.add_groups.Goals as goal

pub loop-group-preserved : goal.loop-group-preserved
loop-group-preserved c =
    c.loop-group.invariant
    ∙ (ap (λ ws. fold with_name c.loop-group.names (texts ws)) (flat_map_next type_words c.args.groups.now c.loop-group.group-index c.group-item.result c.loop-group-test.true c.group-item.is)
    ∙ add_front c.loop-group.names c.add_group.new.names (type_words c.group-item.result) (flat_map type_words (drop (c.loop-group.group-index + 1) c.args.groups.now)) c.in_ok-add_group.ensures.1)
