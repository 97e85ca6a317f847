use Rattle.std.proofs.Common.{sym}
use Rattle.np_names.proofs.SectionLaws.{no_action_again}
use Rattle.np_names.proofs.sections.is_again.Goals as goal

-- an action never comes again
pub returns-in-Action : goal.returns-in-Action
returns-in-Action c =
    rw c.in-Action.is (sym (no_action_again c.in-Action.field-0 c.in-Action.field-1 c.in-Action.field-2 c.in-Action.field-3 c.in-Action.field-4 c.args.before.now))
