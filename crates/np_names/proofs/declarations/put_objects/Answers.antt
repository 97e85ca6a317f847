use Rattle.std.proofs.Common.{arith}
use Rattle.std.proofs.lemmas.Grind.{common_steps}
use Rattle.std.specs.List.{flat_map}
use Rattle.np_names.specs.declared.fault.Source.TheVariants.{Problem}
use Rattle.np_names.specs.declared.fault.TypeWhy.TheVariants.{NameTwice}
use Rattle.np_names.specs.Declarations.{object_groups}
use Rattle.np_names.specs.Names.{repeats, texts, words_of}
use Rattle.np_names.proofs.Stepping.{step_first_in, step_kept_in, objects_cons, objects_names_cons}
use Rattle.np_names.proofs.declarations.put_objects.Goals as goal

pub returns-in_err-put_groups : goal.returns-in_err-put_groups
returns-in_err-put_groups c =
    let all_first = step_first_in (λ names s. repeats names (words_of (object_groups s))) (λ names ss. repeats names (words_of (flat_map object_groups ss)))
    (λ s. texts (words_of (object_groups s))) (λ ss. texts (words_of (flat_map object_groups ss))) objects_cons objects_names_cons
    Problem NameTwice c.args.objects.now c.loop-section.objects c.args.problem.now.sections c.as_slice-section-items.result.now c.as_slice-section-items.ensures
    c.loop-section.section-index c.section-item.result c.loop-section-test.true c.section-item.is c.loop-section.invariant.1 in
    grind (arith, common_steps, all_first, c.object_groups.ensures)

pub loop-section-preserved : goal.loop-section-preserved
loop-section-preserved c =
    step_kept_in (λ names s. repeats names (words_of (object_groups s))) (λ names ss. repeats names (words_of (flat_map object_groups ss)))
    (λ s. texts (words_of (object_groups s))) (λ ss. texts (words_of (flat_map object_groups ss))) objects_cons objects_names_cons
    Problem NameTwice c.args.objects.now c.loop-section.objects c.args.problem.now.sections c.as_slice-section-items.result.now c.as_slice-section-items.ensures
    c.loop-section.section-index c.section-item.result c.loop-section-test.true c.section-item.is c.put_groups.new.names c.loop-section.invariant
    (rw c.object_groups.ensures at c.in_ok-put_groups.ensures.0) (rw c.object_groups.ensures at c.in_ok-put_groups.ensures.1)
