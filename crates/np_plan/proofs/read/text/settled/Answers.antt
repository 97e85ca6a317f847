use Rattle.std.proofs.Common.{[]}
use Rattle.np_plan.proofs.PlanLaws.{spelled_by, placed_by, only_by, wide_by}
use Rattle.np_plan.proofs.read.text.settled.Goals as goal

pub returns-in-Some-clause-fault : goal.returns-in-Some-clause-fault
returns-in-Some-clause-fault c = wide_by c.args.bytes.now c.args.text [] c.requires c.in-Some.place c.in-Some.ensures.found

pub returns-in-None-clause-spelled : goal.returns-in-None-clause-spelled
returns-in-None-clause-spelled c = spelled_by c.args.bytes.now c.args.text [] c.requires c.in-None.ensures.none

pub returns-in-None-clause-placed : goal.returns-in-None-clause-placed
returns-in-None-clause-placed c = placed_by c.args.bytes.now c.args.text [] c.requires

pub returns-in-None-clause-only : goal.returns-in-None-clause-only
returns-in-None-clause-only c other spells = only_by c.args.bytes.now c.args.text [] c.requires other spells
