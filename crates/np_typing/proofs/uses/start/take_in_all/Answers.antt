use Rattle.std.proofs.Common.{[]}
use Rattle.np_typing.specs.LookUps.{HasStart}
use Rattle.np_typing.specs.Rules.{problem_section_use_faults}
use Rattle.np_typing.proofs.UsesAnswers.{handed}
use Rattle.np_typing.proofs.UsesEach.{each_start, each_step, each_fault, each_all}
use Rattle.np_typing.proofs.uses.start.take_in_all.Goals as goal

pub loop-section-init : goal.loop-section-init
loop-section-init c = each_start (problem_section_use_faults c.args.scope.now) (HasStart c.args.scope.now) [] c.args.sections.now c.args.start c.requires

pub loop-section-preserved : goal.loop-section-preserved
loop-section-preserved c =
    each_step (problem_section_use_faults c.args.scope.now) (HasStart c.args.scope.now) [] c.args.sections.now c.loop-section.section-index c.section-item.result _ _
    c.loop-section-test.true c.section-item.is c.loop-section.invariant c.in_ok-all.ensures

pub returns-in_err-all : goal.returns-in_err-all
returns-in_err-all c =
    handed _ _ c.from_residual.result c.in_err-all.field-0.0 c.from_residual.ensures.1
    (each_fault (problem_section_use_faults c.args.scope.now) (HasStart c.args.scope.now) [] c.args.sections.now c.loop-section.section-index c.section-item.result _ _
    c.loop-section-test.true c.section-item.is c.loop-section.invariant c.in_err-all.ensures)

pub returns : goal.returns
returns c =
    each_all (problem_section_use_faults c.args.scope.now) (HasStart c.args.scope.now) [] c.args.sections.now c.loop-section.section-index _
    c.loop-section-test.false c.loop-section.invariant
