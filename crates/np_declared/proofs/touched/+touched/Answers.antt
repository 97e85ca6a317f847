use Rattle.std.proofs.Common.{◌∙◌}
use Rattle.np_declared.specs.Symbols.{touched, changed}
use Rattle.np_names.proofs.Repeats.{add_next}
use Rattle.np_declared.proofs.TouchedLaws.{touched_and}
use Rattle.np_declared.proofs.touched.+touched.Goals as goal

pub add_effects-loop-effect-preserved : goal.add_effects-loop-effect-preserved
add_effects-loop-effect-preserved t c =
    let items = c.args.effects.now in
    let i = c.loop-effect.effect-index in
    let e = c.effect-item.result in (
      c.loop-effect.invariant.0 ∙ add_next touched c.loop-effect.all.predicates c.add_effect.new.all.predicates items i e c.loop-effect-test.true c.effect-item.is c.in_ok-add_effect.ensures.1.0,
      c.loop-effect.invariant.1 ∙ add_next changed c.loop-effect.all.functions c.add_effect.new.all.functions items i e c.loop-effect-test.true c.effect-item.is c.in_ok-add_effect.ensures.1.1,
    )

pub add_effect-returns-in-And : goal.add_effect-returns-in-And
add_effect-returns-in-And t c =
    rw c.in-And.is
    (touched_and c.in-And.parts c.args.all.now.predicates c.args.all.now.functions c.add_effects.new.all.predicates c.add_effects.new.all.functions c.add_effects.result
    (rw c.as_slice.ensures at c.add_effects.ensures))
