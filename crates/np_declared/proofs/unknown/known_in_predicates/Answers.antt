use Rattle.std.proofs.Common.{◌∙◌}
use Rattle.np_names.specs.declared.fault.Source.TheVariants.{Domain}
use Rattle.np_names.specs.declared.fault.TypeWhy.TheVariants.{UnknownType}
use Rattle.np_declared.specs.TypeRules.{unknown_in}
use Rattle.np_names.proofs.Repeats.{past_item}
use Rattle.np_declared.proofs.unknown.known_in_predicates.Goals as goal

pub loop-declared-preserved : goal.loop-declared-preserved
loop-declared-preserved c =
    c.loop-declared.invariant
    ∙ past_item Domain UnknownType (λ x. unknown_in c.args.types.now x.parameters) c.args.predicates.now c.loop-declared.declared-index c.declared-item.result
    c.loop-declared-test.true c.declared-item.is (rw c.as_slice.ensures at c.in_ok-known_in.ensures.0)
