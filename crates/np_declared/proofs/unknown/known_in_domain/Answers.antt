use Rattle.std.proofs.Common.{◌∙◌}
use Rattle.np_names.specs.declared.fault.Source.TheVariants.{Domain}
use Rattle.np_names.specs.declared.fault.TypeWhy.TheVariants.{UnknownType}
use Rattle.np_declared.specs.TypeRules.{section_unknown}
use Rattle.np_names.proofs.Repeats.{past_item}
use Rattle.np_declared.proofs.unknown.known_in_domain.Goals as goal

pub loop-section-preserved : goal.loop-section-preserved
loop-section-preserved c =
    c.loop-section.invariant
    ∙ past_item Domain UnknownType (section_unknown c.args.types.now) c.as_slice-section-items.result.now c.loop-section.section-index c.section-item.result
    c.loop-section-test.true c.section-item.is c.in_ok-known_in_section.ensures.0
