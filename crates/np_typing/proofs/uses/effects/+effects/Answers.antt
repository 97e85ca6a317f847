use Rattle.std.proofs.Common.{◌≡◌, List, ◌++◌, sym, ap, ◌∙◌}
use Rattle.np_model.specs.declared.task.Eff.{Eff}
use Rattle.np_conditions.specs.declared.effect.Effect.TheVariants as effect
use Rattle.np_typing.proofs.UsesAnswers.{answers_same}
use Rattle.np_typing.proofs.UsesFolds.{faults_of_effects, effects_of_parts}
use Rattle.np_typing.proofs.uses.effects.+effects.Goals as goal

pub effect-returns-in-And : goal.effect-returns-in-And
effect-returns-in-And t c =
    let parts = c.as_slice.result.now in
    let is : c.args.effect.now ≡ effect.And parts = c.in-And.is ∙ ap effect.And (sym c.as_slice.ensures) in
    answers_same _ _ _ _ c.effects.result (faults_of_effects c.args.scope.now c.args.effect.now parts is)
    (λ all e. e ∙ ap (λ (xs : List Eff). c.args.so_far ++ xs) (sym (effects_of_parts c.args.scope.now c.args.effect.now parts is)))
    c.effects.ensures
