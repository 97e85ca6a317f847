use Rattle.std.proofs.Common.{◌≡◌, ◌∙◌, ap, sym, pos, rules, to_z, of_z}
use Rattle.std.specs.Prelude.{neg_ℤ, FitsSigned}
use Rattle.std.specs.Int.{w128}
use Rattle.std.proofs.lemmas.Int.{to_z-of_z}
use Rattle.np_scale.specs.Code.{signed}
use Rattle.np_scale.proofs.Fitted.{negated_from}
use Rattle.np_scale.proofs.form.signed.Goals as goal

pub returns-then-turned : goal.returns-then-turned
returns-then-turned c =
    let f : FitsSigned w128 c.num.result = search rules in
    let g : FitsSigned w128 c.negated.result = search rules in
    let e : to_z w128 c.den.result ≡ pos c.den.result = search rules in
    negated_from c.unwrap.result c.args.number.now (to_z w128 (of_z w128 c.negated.result)) (to_z w128 c.den.result) (sym c.unwrap.ensures ∙ c.of.ensures)
    (to_z-of_z w128 c.negated.result g ∙ c.negated.ensures ∙ ap neg_ℤ (to_z-of_z w128 c.num.result f ∙ c.num.ensures.value))
    (e ∙ ap pos c.den.ensures.value)
    ∙ ap (λ b. signed b c.args.number.now) (sym c.if-turned.true)
