use Rattle.std.proofs.Common.{Option, sym, subst}
use Rattle.np_answers.specs.declared.words.Command.{Command as CommandWords}
use Rattle.np_answers.specs.CommandSteps.{told}
use Rattle.np_answers.specs.Words.{Command}
use Rattle.np_planner.specs.RightAnswers.{IsRight, IsRightTo}
use Rattle.np_planner.proofs.entry.answer.Goals as goal

pub returns-in-Some-Check : goal.returns-in-Some-Check
returns-in-Some-Check g c =
    subst (λ (o : Option Command). IsRight o (g.S.Shelf.seen c.args.shelf.now) (g.S.Shelf.seen c.check.new.shelf) c.check.result) c.in-Some-Check.ensures.told
    (subst (λ (w : CommandWords). IsRightTo (told w) (g.S.Shelf.seen c.args.shelf.now) (g.S.Shelf.seen c.check.new.shelf) c.check.result) (sym c.in-Some-Check.field-0-is) c.check.ensures)
