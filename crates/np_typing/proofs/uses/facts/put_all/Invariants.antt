use Rattle.std.proofs.Common.{List}
use Rattle.np_problem.specs.declared.problem.Fact.{Fact}
use Rattle.np_typing.specs.Facts.{fact_faults}
use Rattle.np_typing.specs.LookUps.{HasFacts}
use Rattle.np_typing.proofs.UsesEach.{SoFar}
use Rattle.np_typing.proofs.uses.facts.put_all.Given as goal

abbrev pub invariant-loop-fact : goal.invariant-loop-fact
invariant-loop-fact l = (before : List Fact) → HasFacts l.scope before l.fn.all → SoFar (fact_faults l.scope) (HasFacts l.scope) before l.facts l.fact-index l.all
