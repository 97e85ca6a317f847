use Rattle.std.proofs.Common.{◌++◌, ◌+◌, take, arith, refl, sym, ap, ◌∙◌}
use Rattle.std.proofs.lemmas.Grind.{common_steps}
use Rattle.std.proofs.lemmas.List.{take_all}
use Rattle.std.specs.List.{flat_map}
use Rattle.np_names.specs.Declarations.{type_groups, all_types}
use Rattle.np_names.specs.Names.{typed_words}
use Rattle.np_declared.proofs.SupertypeLaws.{supertypes_like, typed_parts_next}
use Rattle.np_declared.proofs.types.supertypes.Goals as goal

pub returns-in_err-put_groups : goal.returns-in_err-put_groups
returns-in_err-put_groups c =
    let first = c.in_err-put_groups.ensures (typed_words (flat_map type_groups (take c.loop-section.section-index c.as_slice-section-items.result.now))) c.loop-section.invariant in
    grind (arith, common_steps, first)

pub loop-section-preserved : goal.loop-section-preserved
loop-section-preserved c =
    let items = c.as_slice-section-items.result.now in
    let i = c.loop-section.section-index in
    let s = c.section-item.result in
    let so_far = typed_words (flat_map type_groups (take i items)) in
    let answer = c.in_ok-put_groups.ensures so_far c.loop-section.invariant in
    supertypes_like c.put_groups.new.supertypes (so_far ++ typed_words c.type_groups.result.now) (typed_words (flat_map type_groups (take (i + 1) items)))
    (ap (λ gs. so_far ++ typed_words gs) c.type_groups.ensures ∙ sym (typed_parts_next items i s c.loop-section-test.true c.section-item.is)) answer.1

pub returns : goal.returns
returns c = (
  refl,
  supertypes_like c.loop-section.all (typed_words (flat_map type_groups (take c.loop-section.section-index c.as_slice-section-items.result.now))) (typed_words (all_types c.args.domain.now))
      (ap (λ ss. typed_words (flat_map type_groups ss)) (take_all c.loop-section.section-index c.as_slice-section-items.result.now c.loop-section-test.false ∙ c.as_slice-section-items.ensures))
      c.loop-section.invariant,
)
