use Rattle.std.proofs.Common.{[]}
use Rattle.np_typing.specs.LookUps.{HasStart}
use Rattle.np_typing.specs.Rules.{problem_section_use_faults}
use Rattle.np_typing.proofs.UsesEach.{SoFar}
use Rattle.np_typing.proofs.uses.start.take_in_all.Given as goal

abbrev pub invariant-loop-section : goal.invariant-loop-section
invariant-loop-section l = SoFar (problem_section_use_faults l.scope) (HasStart l.scope) [] l.sections l.section-index l.all
