use Rattle.np_typing.proofs.UsesAnswers.{handed}
use Rattle.np_typing.proofs.UsesArguments.{arguments_fault}
use Rattle.np_typing.proofs.uses.calls.arguments.Goals as goal

pub returns-in_err-argument : goal.returns-in_err-argument
returns-in_err-argument c =
    handed _ _ c.from_residual.result c.in_err-argument.field-0.0 c.from_residual.ensures.1
    (arguments_fault c.args.scope.now c.args.wanted.now c.args.idents.now c.loop-place.place c.index-idents-place.result _ _
    c.loop-place-test.true c.requires c.index-idents-place.is c.loop-place.invariant.left c.in_err-argument.ensures)
