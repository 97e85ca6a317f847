use Rattle.std.proofs.Common.{◌∙◌, filter}
use Rattle.np_names.specs.declared.fault.Source.TheVariants.{Domain}
use Rattle.np_names.specs.declared.fault.TypeWhy.TheVariants.{TypeCycle}
use Rattle.np_declared.specs.TypeRules.{is_cyclic}
use Rattle.np_names.proofs.Repeats.{past_item}
use Rattle.np_declared.proofs.types.acyclic_groups.Goals as goal

pub loop-group-preserved : goal.loop-group-preserved
loop-group-preserved c =
    c.loop-group.invariant
    ∙ past_item Domain TypeCycle (λ g. filter (is_cyclic c.args.types.now g.of) g.words) c.args.groups.now c.loop-group.group-index c.group-item.result
    c.loop-group-test.true c.group-item.is c.in_ok-acyclic_group.ensures.0
