use Rattle.std.proofs.Common.{List, subst}
use Rattle.np_flat.specs.declared.parts.FlatStep.{FlatStep}
use Rattle.np_check.specs.Walks.{IsNumberOf, HasNoNumber}
use Rattle.std.specs.Prelude.{length}
use Rattle.np_check.proofs.StepNumbers.{number_within}
use Rattle.np_check.proofs.PlanRuns.{taken_if}
use Rattle.np_check.proofs.walk.Walk.take.Goals as goal

pub returns-in-Some : goal.returns-in-Some
returns-in-Some c =
    taken_if c.args.flat.now c.args.step.now c.in-Some.number c.args.self.now c.take_number.new.self c.take_number.result c.requires.flat
    (subst (λ (ss : List FlatStep). IsNumberOf ss c.args.step.now c.in-Some.number) c.requires.numbers c.in-Some.ensures)
    c.take_number.ensures

pub returns-in-None : goal.returns-in-None
returns-in-None c n stands =
    absurd (subst (λ (ss : List FlatStep). HasNoNumber ss (length ss) c.args.step.now) c.requires.numbers c.in-None.ensures n (number_within c.args.flat.now.steps c.args.step.now n stands) stands)
