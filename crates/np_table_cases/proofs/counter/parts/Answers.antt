use Rattle.np_table_cases.proofs.Counters.{counter_is}
use Rattle.np_table_cases.proofs.counter.parts.Goals as goal

pub returns : goal.returns
returns g c =
    let counter = c.args.counter.now in
    counter_is c.facts.result c.values.result c.start.result c.subgoals.result c.steps.result c.goal.result counter.constant counter.coefficient counter.change counter.cost
    c.facts.ensures c.values.ensures c.start.ensures c.subgoals.ensures c.steps.ensures c.goal.ensures
    c.requires.constant c.requires.coefficient c.requires.narrow c.requires.change c.requires.small c.requires.cost
