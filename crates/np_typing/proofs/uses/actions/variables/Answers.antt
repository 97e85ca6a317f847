use Rattle.std.proofs.Common.{fold, refl, ap, ◌∙◌}
use Rattle.np_names.specs.Names.{texts, with_name}
use Rattle.np_typing.proofs.UsesActions.{names_more, names_all}
use Rattle.np_typing.proofs.uses.actions.variables.Goals as goal

pub loop-group-preserved : goal.loop-group-preserved
loop-group-preserved c =
    names_more c.args.groups.now c.loop-group.group-index c.group-item.result c.loop-group.names _ c.loop-group-test.true c.group-item.is c.loop-group.invariant
    (c.in_ok-add_words.ensures.1 ∙ ap (λ ws. fold with_name c.loop-group.names (texts ws)) c.as_slice.ensures)

pub returns : goal.returns
returns c = (refl, names_all c.args.groups.now c.loop-group.group-index c.loop-group.names c.loop-group-test.false c.loop-group.invariant)
