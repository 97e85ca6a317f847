use Rattle.std.proofs.Common.{◌∙◌}
use Rattle.np_names.specs.declared.fault.Source.TheVariants.{Domain}
use Rattle.np_names.specs.declared.fault.TypeWhy.TheVariants.{UnknownType}
use Rattle.np_declared.specs.TypeRules.{unknown_in}
use Rattle.np_names.proofs.Repeats.{past_item}
use Rattle.np_declared.proofs.unknown.known_in_functions.Goals as goal

pub loop-function-preserved : goal.loop-function-preserved
loop-function-preserved c =
    c.loop-function.invariant
    ∙ past_item Domain UnknownType (λ f. unknown_in c.args.types.now f.0.parameters) c.args.functions.now c.loop-function.function-index c.function-item.result
    c.loop-function-test.true c.function-item.is (rw c.as_slice.ensures at c.in_ok-known_in.ensures.0)
