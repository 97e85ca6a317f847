use Rattle.std.proofs.Common.{◌≡◌, ◌++◌, ◌+◌, List, [], take, drop, sym, subst, ap, ◌∙◌}
use Rattle.np_syntax.specs.declared.domain.DomainSection.{DomainSection}
use Rattle.np_names.specs.declared.fault.Source.TheVariants.{Domain}
use Rattle.np_names.specs.declared.fault.TypeWhy.TheVariants.{NameTwice}
use Rattle.np_names.specs.Declarations.{section_repeats}
use Rattle.np_names.specs.DeclaredNames.{HasNames}
use Rattle.np_names.specs.Names.{each_after}
use Rattle.np_names.proofs.Repeats.{faults_first, no_fault}
use Rattle.np_names.proofs.Stepping.{taken, each_after_next}
use Rattle.np_names.proofs.declarations.of_domain.Goals as goal

pub loop-section-preserved : goal.loop-section-preserved
loop-section-preserved c =
    let items = c.as_slice-section-items.result.now in
    let i = c.loop-section.section-index in
    let s = c.section-item.result in
    let answer = c.in-Ok.ensures (take i items) c.loop-section.invariant.0 in
    let next = each_after_next section_repeats items i s c.loop-section-test.true c.section-item.is in (
      subst (λ (before : List DomainSection). HasNames before c.put_section.new.all) (sym (taken section_repeats items i s c.loop-section-test.true c.section-item.is)) answer.1,
      c.loop-section.invariant.1 ∙ (next ∙ ap (λ ws. ws ++ each_after section_repeats (take (i + 1) items) (drop (i + 1) items)) (no_fault Domain NameTwice (section_repeats (take i items) s) answer.0)),
    )

pub returns-in-Err : goal.returns-in-Err
returns-in-Err c =
    let items = c.as_slice-section-items.result.now in
    let i = c.loop-section.section-index in
    let s = c.section-item.result in
    let answer = c.in-Err.ensures (take i items) c.loop-section.invariant.0 in
    let next : each_after section_repeats [] c.args.domain.now.sections ≡ section_repeats (take i items) s ++ each_after section_repeats (take (i + 1) items) (drop (i + 1) items)
    = c.loop-section.invariant.1 ∙ each_after_next section_repeats items i s c.loop-section-test.true c.section-item.is in
    rw next (faults_first Domain NameTwice (section_repeats (take i items) s) (each_after section_repeats (take (i + 1) items) (drop (i + 1) items)) c.in-Err.fault answer)
