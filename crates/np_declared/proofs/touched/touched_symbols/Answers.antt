use Rattle.std.proofs.Common.{◌∙◌}
use Rattle.np_declared.specs.Symbols.{section_touched, section_changed}
use Rattle.np_names.proofs.Repeats.{add_next}
use Rattle.np_declared.proofs.touched.touched_symbols.Goals as goal

pub loop-section-preserved : goal.loop-section-preserved
loop-section-preserved c =
    let items = c.as_slice-section-items.result.now in
    let i = c.loop-section.section-index in
    let s = c.section-item.result in (
      c.loop-section.invariant.0 ∙ add_next section_touched c.loop-section.all.predicates c.add_section.new.all.predicates items i s c.loop-section-test.true c.section-item.is c.in_ok-add_section.ensures.1.0,
      c.loop-section.invariant.1 ∙ add_next section_changed c.loop-section.all.functions c.add_section.new.all.functions items i s c.loop-section-test.true c.section-item.is c.in_ok-add_section.ensures.1.1,
    )
