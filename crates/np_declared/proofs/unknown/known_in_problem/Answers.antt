use Rattle.std.proofs.Common.{◌∙◌}
use Rattle.np_names.specs.declared.fault.Source.TheVariants.{Problem}
use Rattle.np_names.specs.declared.fault.TypeWhy.TheVariants.{UnknownType}
use Rattle.np_names.specs.Declarations.{object_groups}
use Rattle.np_declared.specs.TypeRules.{unknown_in}
use Rattle.np_names.proofs.Repeats.{past_part}
use Rattle.np_declared.proofs.TableLaws.{unknown_more}
use Rattle.np_declared.proofs.unknown.known_in_problem.Goals as goal

pub loop-section-preserved : goal.loop-section-preserved
loop-section-preserved c =
    c.loop-section.invariant
    ∙ past_part Problem UnknownType (unknown_in c.args.types.now) (unknown_more c.args.types.now) object_groups c.as_slice-section-items.result.now
    c.loop-section.section-index c.section-item.result c.loop-section-test.true c.section-item.is (rw c.object_groups.ensures at c.in_ok-known_in.ensures.0)
