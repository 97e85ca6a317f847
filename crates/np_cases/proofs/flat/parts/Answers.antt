use Rattle.np_cases.proofs.LoweringTask.{example_is}
use Rattle.np_cases.proofs.flat.parts.Goals as goal

pub returns-clause-flat : goal.returns-clause-flat
returns-clause-flat c n =
    example_is n.facts.result n.values.result n.start.result n.subgoals.result n.both_steps.result n.numbers.result
    n.facts.ensures n.values.ensures n.start.ensures n.subgoals.ensures n.both_steps.ensures n.numbers.ensures
