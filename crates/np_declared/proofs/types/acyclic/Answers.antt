use Rattle.std.proofs.Common.{◌∙◌}
use Rattle.np_names.specs.declared.fault.Source.TheVariants.{Domain}
use Rattle.np_names.specs.declared.fault.TypeWhy.TheVariants.{TypeCycle}
use Rattle.np_names.specs.Declarations.{type_groups}
use Rattle.np_declared.specs.TypeRules.{cyclic_words}
use Rattle.np_names.proofs.Repeats.{past_part}
use Rattle.np_declared.proofs.TableLaws.{cyclic_more}
use Rattle.np_declared.proofs.types.acyclic.Goals as goal

pub loop-section-preserved : goal.loop-section-preserved
loop-section-preserved c =
    c.loop-section.invariant
    ∙ past_part Domain TypeCycle (cyclic_words c.args.types.now) (cyclic_more c.args.types.now) type_groups c.as_slice-section-items.result.now
    c.loop-section.section-index c.section-item.result c.loop-section-test.true c.section-item.is (rw c.type_groups.ensures at c.in_ok-acyclic_groups.ensures.0)
